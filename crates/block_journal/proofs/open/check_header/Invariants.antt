use Rattle.std.proofs.Common.{◌≡◌, ◌≤◌, length, take}
use Rattle.block_journal.specs.Journals.{header}
use Rattle.block_journal.proofs.open.check_header.Given as goal

abbrev pub invariant-loop-at : goal.invariant-loop-at
invariant-loop-at l = record { within : l.at ≤ length l.bytes; same : take l.at l.bytes ≡ take l.at (header l.digest) }
