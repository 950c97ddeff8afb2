use Rattle.std.proofs.Common.{◌≡◌, length}
use Rattle.mill_base.specs.inner.Blocks.{AreJoined}
use Rattle.mill_base.proofs.joint.join.Given as goal

abbrev pub invariant-loop-index : goal.invariant-loop-index
invariant-loop-index g l = record {
  long : length l.words ≡ length l.initial.words;
  joined : AreJoined g.J.Joint.cell l.initial.words l.others l.index l.words;
}
