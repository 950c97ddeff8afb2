use Rattle.std.proofs.Common.{◌≡◌, ◌<◌, ◌*◌, ◌/◌, ℕ, slice_index}
use Rattle.tiff_palette.specs.Pixels.{nibble}
use Rattle.tiff_palette.proofs.pixels.unpack.Given as goal

abbrev pub invariant-loop-k : goal.invariant-loop-k
invariant-loop-k l = (x : ℕ) → x < 2 * l.k → slice_index l.out x ≡ nibble (slice_index l.row (x / 2)) x
