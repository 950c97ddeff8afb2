use Rattle.audit_model.proofs.Finishing.{finish}
use Rattle.audit_model.proofs.laws.a_part_can_be_finished.Goals as goal

pub returns : goal.returns
returns c = finish
