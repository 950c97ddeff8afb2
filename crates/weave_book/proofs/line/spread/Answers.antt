use Rattle.std.proofs.Common.{arith}
use Rattle.weave_book.proofs.Parts.{repeats_twice, spread_past, spread_cells}
use Rattle.weave_book.proofs.line.spread.Goals as goal

pub loop-filled-preserved : goal.loop-filled-preserved
loop-filled-preserved c = record {
  some = omega arith;
  few = omega arith;
  past = λ j h within. spread_past c.loop-filled.spread c.loop-filled.filled j c.loop-filled.invariant.past h within;
  cells = λ line from again start.
      let kept = c.loop-filled.invariant.cells line from again start in
      (repeats_twice line c.loop-filled.filled kept.0, spread_cells line from c.loop-filled.spread c.loop-filled.filled c.loop-filled.invariant.past kept.0 kept.1);
}
