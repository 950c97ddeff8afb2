use Rattle.std.proofs.Common.{◌≡◌, ◌/◌, length, refl, ap, ◌∙◌, arith}
use Rattle.std.specs.Prelude.{slice_index}
use Rattle.mill_base.specs.Lines.{line_by}
use Rattle.tile_grid.proofs.KindLines.{line_none, line_pushed}
use Rattle.tile_grid.proofs.kinds.kinds_of_ends.Goals as goal

pub loop-column-init : goal.loop-column-init
loop-column-init c = line_none c.in_ok-kinds.kinds.items (λ e. slice_index c.args.columns_of_ends.now e / c.args.side) c.in_ok-kinds.ensures.items

pub loop-column-preserved : goal.loop-column-preserved
loop-column-preserved c =
    line_pushed c.loop-column.kinds.items c.push.new.self.items c.loop-column.column-index (slice_index c.args.columns_of_ends.now c.loop-column.column-index / c.args.side)
    (λ e. slice_index c.args.columns_of_ends.now e / c.args.side) c.loop-column.invariant c.in_ok-push.ensures.items refl

pub returns : goal.returns
returns c =
    let whole : c.loop-column.column-index ≡ length c.args.columns_of_ends.now = omega (arith, c.loop-column-test.false, c.loop-column.auto.column-index-end) in
    c.loop-column.invariant ∙ ap (λ n. line_by n (λ e. slice_index c.args.columns_of_ends.now e / c.args.side)) whole
