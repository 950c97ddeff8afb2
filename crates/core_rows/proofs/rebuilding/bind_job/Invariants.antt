use Rattle.core_rows.proofs.rebuilding.bind_job.Given as goal

abbrev pub ghosts-bind_with : goal.ghosts-bind_with
ghosts-bind_with a = record { name = a.blank.name; parts = a.blank.parts }
