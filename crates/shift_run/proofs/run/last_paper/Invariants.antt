use Rattle.shift_run.proofs.run.last_paper.Given as goal

abbrev pub ghosts-do_shifts : goal.ghosts-do_shifts
ghosts-do_shifts a = record { name = a.blank.name; parts = a.blank.parts }
