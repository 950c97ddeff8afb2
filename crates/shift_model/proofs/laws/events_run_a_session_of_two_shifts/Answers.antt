use Rattle.shift_model.proofs.StepsWorked.{worked, worked_run}
use Rattle.shift_model.proofs.laws.events_run_a_session_of_two_shifts.Goals as goal

pub returns-clause-world : goal.returns-clause-world
returns-clause-world c = worked

pub returns-clause-run : goal.returns-clause-run
returns-clause-run c = worked_run
