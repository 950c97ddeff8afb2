use Rattle.draft_model.proofs.drawdown.bound.Given as goal

abbrev pub ghosts-raw_with : goal.ghosts-raw_with
ghosts-raw_with a = record { name = a.blank.name; parts = a.blank.parts }
