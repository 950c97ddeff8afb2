use Rattle.std.proofs.Common.{sym, subst, List, ℕ, ◌+◌}
use Rattle.tiff_palette.specs.inner.Drawings.{HasRows}
use Rattle.tiff_palette.proofs.Drawn.{row_more}
use Rattle.tiff_palette.proofs.pixels.read_pixels.Goals as goal

pub loop-y-preserved : goal.loop-y-preserved
loop-y-preserved c =
    let s = c.args.strips.now in
    subst (λ (pixels : List ℕ). HasRows s.layout s.offsets.bytes.now (c.loop-y.y + 1) pixels) (sym c.in_ok-push_row.ensures)
    (row_more s.layout s.offsets.bytes.now c.loop-y.pixels.items c.loop-y.y c.row_start-place.result c.loop-y.invariant c.row_start-place.ensures.place)
