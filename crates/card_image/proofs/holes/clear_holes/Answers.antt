use Rattle.std.proofs.Common.{◌∙◌, length-set, get_or-set_other, arith}
use Rattle.std.proofs.Math.Facts.{Fits-lt-pow}
use Rattle.card_image.proofs.Masks.{cleared_more, cleared_holes}
use Rattle.card_image.proofs.holes.clear_holes.Goals as goal

pub loop-at-preserved : goal.loop-at-preserved
loop-at-preserved c = record {
  len = length-set c.loop-at.holes _ _ ∙ c.loop-at.invariant.len;
  done = cleared_more c.loop-at.holes c.args.holes.now c.args.others.now c.loop-at.at (omega (arith, c.loop-at-test.true, c.loop-at.invariant.len, c.loop-at.auto.at-end))
      (Fits-lt-pow (c.type_inv.others c.loop-at.at)) (c.loop-at.invariant.rest c.loop-at.at (omega arith)) c.loop-at.invariant.done;
  rest = λ j past. get_or-set_other c.loop-at.holes c.loop-at.at j _ 0 (omega (arith, past)) ∙ c.loop-at.invariant.rest j (omega (arith, past));
}

pub returns-clause-bits : goal.returns-clause-bits
returns-clause-bits c h =
    cleared_holes c.loop-at.holes c.args.holes.now c.args.others.now c.loop-at.at (omega (arith, c.loop-at-test.false, c.loop-at.auto.at-end)) c.loop-at.invariant.done c.loop-at.invariant.rest h
