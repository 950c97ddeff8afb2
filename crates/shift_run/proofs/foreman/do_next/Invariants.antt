use Rattle.shift_run.proofs.foreman.do_next.Given as goal

abbrev pub ghosts-do_next_with : goal.ghosts-do_next_with
ghosts-do_next_with g a = record { name = a.blank.name; parts = a.blank.parts }
