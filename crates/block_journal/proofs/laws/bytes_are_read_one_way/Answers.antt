use Rattle.block_journal.proofs.Once.{stands_once, not_journal_once, broken_once, stands_is_journal, stands_not_broken, broken_is_journal}
use Rattle.block_journal.proofs.laws.bytes_are_read_one_way.Goals as goal

pub returns-clause-marks : goal.returns-clause-marks
returns-clause-marks c rule digest bytes a b s t = stands_once rule digest bytes a b s.0 t.0 s.1 t.1

pub returns-clause-not_journal : goal.returns-clause-not_journal
returns-clause-not_journal c digest bytes a b len one other = not_journal_once digest bytes len a b one other

pub returns-clause-broken : goal.returns-clause-broken
returns-clause-broken c rule digest bytes a b one other = broken_once rule digest bytes a b one other

pub returns-clause-stands_or_not : goal.returns-clause-stands_or_not
returns-clause-stands_or_not c rule digest bytes marks at len s isnt = stands_is_journal rule digest bytes marks s.0 at len s.1 isnt

pub returns-clause-stands_or_broken : goal.returns-clause-stands_or_broken
returns-clause-stands_or_broken c rule digest bytes marks block s broken = stands_not_broken rule digest bytes marks s.0 block s.1 broken

pub returns-clause-broken_or_not : goal.returns-clause-broken_or_not
returns-clause-broken_or_not c rule digest bytes block at len broken isnt = broken_is_journal rule digest bytes block at len broken isnt
