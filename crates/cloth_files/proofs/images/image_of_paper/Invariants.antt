use Rattle.cloth_files.proofs.images.image_of_paper.Given as goal

abbrev pub ghosts-pixels_of_paper : goal.ghosts-pixels_of_paper
ghosts-pixels_of_paper a = record { name = a.blank.name; parts = a.blank.parts }
