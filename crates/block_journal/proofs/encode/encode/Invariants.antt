use Rattle.std.proofs.Common.{◌≡◌, ◌≤◌, ◌+◌, ◌*◌, ◌++◌, length, drop, vec_capacity}
use Rattle.block_journal.specs.Journals.{number, marks_bytes}
use Rattle.block_journal.proofs.encode.encode.Given as goal

abbrev pub invariant-loop-mark : goal.invariant-loop-mark
invariant-loop-mark l = record {
  bytes : l.out.items ++ marks_bytes (drop l.mark-index l.block) ≡ number (length l.block) ++ marks_bytes l.block;
  long : length l.out.items ≡ 4 + 12 * l.mark-index;
  room : vec_capacity l.fn.out ≤ vec_capacity l.out;
}
