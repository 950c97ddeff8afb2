use Rattle.tiff_palette.specs.inner.Drawings.{HasRows}
use Rattle.tiff_palette.proofs.pixels.read_pixels.Given as goal

abbrev pub invariant-loop-y : goal.invariant-loop-y
invariant-loop-y l = HasRows l.layout l.strips.offsets.bytes.now l.y l.pixels.items
