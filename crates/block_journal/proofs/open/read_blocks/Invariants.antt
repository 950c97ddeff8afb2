use Rattle.std.proofs.Common.{◌≡◌, ◌≤◌, ◌-◌, length, vec_capacity}
use Rattle.block_journal.specs.Opens.{ReadTo}
use Rattle.block_journal.proofs.open.read_blocks.Given as goal

abbrev pub invariant-loop-place : goal.invariant-loop-place
invariant-loop-place g l = record {
  read : ReadTo (g.R.Rule.allows l.fn.rule) l.digest l.bytes l.marks.items l.place l.count;
  counted : l.count ≤ length l.marks.items;
  room : vec_capacity l.fn.marks ≤ vec_capacity l.marks;
  taken : g.R.Rule.taken l.rule ≡ l.marks.items;
  allows : g.R.Rule.allows l.rule ≡ g.R.Rule.allows l.fn.rule;
  most : g.R.Rule.most l.rule ≡ g.R.Rule.most l.fn.rule;
}

abbrev pub decreases-loop-place : goal.decreases-loop-place
decreases-loop-place g l = length l.bytes - l.place
