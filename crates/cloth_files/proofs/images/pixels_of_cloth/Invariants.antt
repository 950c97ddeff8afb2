use Rattle.std.proofs.Common.{◌≡◌, map, take}
use Rattle.std.specs.Prelude.{reverse}
use Rattle.std.specs.List.{concat}
use Rattle.cloth_files.specs.Images.{pixel}
use Rattle.cloth_files.proofs.images.pixels_of_cloth.Given as goal

abbrev pub invariant-loop-row : goal.invariant-loop-row
invariant-loop-row l = l.pixels.items ≡ concat (take l.row (reverse (map (map pixel) l.cloth.rows)))
