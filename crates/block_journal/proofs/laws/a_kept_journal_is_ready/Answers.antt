use Rattle.block_journal.proofs.Keeping.{ready}
use Rattle.block_journal.proofs.laws.a_kept_journal_is_ready.Goals as goal

pub returns : goal.returns
returns c rule told journal kept = ready rule told journal kept
