use Rattle.open_desk.proofs.doing.do_act.Given as goal

abbrev pub ghosts-commit_with : goal.ghosts-commit_with
ghosts-commit_with a = record { name = a.blank.name; parts = a.blank.parts }
