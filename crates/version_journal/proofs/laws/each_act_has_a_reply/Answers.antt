use Rattle.version_journal.proofs.Histories.{length-replies}
use Rattle.version_journal.proofs.laws.each_act_has_a_reply.Goals as goal

pub returns : goal.returns
returns c = length-replies
