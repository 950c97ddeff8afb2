use Rattle.std.proofs.Common.{◌≡◌, length, ap, ◌∙◌, arith}
use Rattle.mill_base.proofs.lemmas.Lines.{length-line_by}
use Rattle.cloth_floats.proofs.Blocks.{behind_one, behind_further}
use Rattle.cloth_floats.proofs.block.any_behind.Goals as goal

pub loop-width-init : goal.loop-width-init
loop-width-init c = record { some = omega arith; within = omega arith; found = behind_one c.args.found.now }

pub join_behind-requires : goal.join_behind-requires
join_behind-requires c =
    let long : length c.loop-width.found ≡ length c.args.found.now = ap length c.loop-width.invariant.found ∙ length-line_by (length c.args.found.now) _ in
    omega arith

pub loop-width-preserved : goal.loop-width-preserved
loop-width-preserved c = record {
  some = omega arith;
  within = omega arith;
  found = behind_further c.args.found.now c.loop-width.found c.join_behind.new.self c.loop-width.width c.min-by.result (omega arith) (omega arith) (omega arith) c.loop-width.invariant.found c.join_behind.ensures;
}
