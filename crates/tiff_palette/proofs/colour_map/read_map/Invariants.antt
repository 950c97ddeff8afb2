use Rattle.tiff_palette.specs.inner.Drawings.{HasShades}
use Rattle.tiff_palette.proofs.colour_map.read_map.Given as goal

abbrev pub invariant-loop-i : goal.invariant-loop-i
invariant-loop-i l = HasShades l.palette.strips.layout.bits l.palette.strips.offsets.bytes.now l.i l.colours.items
