use Rattle.std.proofs.Common.{◌≡◌, ◌++◌, take, drop}
use Rattle.version_keep.specs.Blocks.{marks_of}
use Rattle.version_keep.specs.Doings.{IsDoing}
use Rattle.version_keep.proofs.Takes.{Rest}
use Rattle.version_keep.proofs.taking.take_block.Given as goal

abbrev pub invariant-loop-at : goal.invariant-loop-at
invariant-loop-at l = record {
  doing : IsDoing l.session l.core l.counts.items;
  marks : marks_of l.core.entries ≡ marks_of l.fn.core.entries ++ take l.at l.block;
  rest : Rest l.session (marks_of l.fn.core.entries) l.block (marks_of l.core.entries) (drop l.at l.block);
}
