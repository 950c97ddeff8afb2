use Rattle.core_rows.proofs.cores.answers.Given as goal

abbrev pub ghosts-call_with : goal.ghosts-call_with
ghosts-call_with a = record { name = a.blank.name; parts = a.blank.parts }
