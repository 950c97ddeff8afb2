use Rattle.version_keep.proofs.acting.do_act.Given as goal

abbrev pub ghosts-do_prepared : goal.ghosts-do_prepared
ghosts-do_prepared a = record { name = a.blank.name; parts = a.blank.parts }
