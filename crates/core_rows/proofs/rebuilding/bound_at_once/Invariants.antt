use Rattle.core_rows.proofs.rebuilding.bound_at_once.Given as goal

abbrev pub ghosts-whole_with : goal.ghosts-whole_with
ghosts-whole_with a = record { name = a.blank.name; parts = a.blank.parts }
