use Rattle.std.proofs.Common.{◌≡◌, length, ap, ◌∙◌, arith}
use Rattle.mill_base.proofs.lemmas.Lines.{length-line_by}
use Rattle.cloth_floats.proofs.Blocks.{ahead_one, ahead_further, none_further}
use Rattle.cloth_floats.proofs.block.all_ahead.Goals as goal

pub loop-width-init : goal.loop-width-init
loop-width-init c = record { some = omega arith; within = omega arith; found = ahead_one c.args.found.now }

pub keep_ahead-requires : goal.keep_ahead-requires
keep_ahead-requires c =
    let long : length c.loop-width.found ≡ length c.args.found.now = ap length c.loop-width.invariant.found ∙ length-line_by (length c.args.found.now) _ in
    omega arith

pub loop-width-preserved : goal.loop-width-preserved
loop-width-preserved c = record {
  some = omega arith;
  within = omega arith;
  found = ahead_further c.args.found.now c.loop-width.found c.keep_ahead.new.self c.loop-width.width c.min-by.result (omega arith) (omega arith) c.loop-width.invariant.found c.keep_ahead.ensures;
}

pub returns-then-none-clause-line : goal.returns-then-none-clause-line
returns-then-none-clause-line c = none_further c.args.found.now c.loop-width.found c.loop-width.width c.args.count (omega arith) c.loop-width.invariant.found (c.none.ensures.0 c.if-none.true)
