-- The grid of a design's tiles.
use Rattle.std.proofs.Common.{◌≡◌, ℕ, refl, arith}
use Rattle.draft_model.specs.declared.design.Design.{Design}
use Rattle.draft_model.specs.Designs.{Fits}
use Rattle.tile_grid.specs.Tiles.{IsTileGrid}
use Rattle.tile_rebuild.specs.Tiles.{grid_of}
use Rattle.tile_rebuild.specs.declared.part.Part.{Part}

-- a design that fits has a grid
pub grid_there : (design : Design) → Fits design → IsTileGrid (grid_of design)
grid_there design fits = record {
  columns_limit = fits.columns;
  picks_limit = fits.picks;
  side_limit = fits.tile;
  ends_limit = fits.ends;
  tied = fits.tied;
  weft_within = ((let h = fits.weft_back.0 in omega arith), (let h = fits.weft_back.1 in let k = fits.weft_face.1 in omega arith));
  warp_within = ((let h = fits.warp_face.0 in omega arith), (let h = fits.warp_face.1 in let k = fits.warp_back.1 in omega arith));
}

-- a part by its four numbers
pub part_by : (column pick width height column' pick' width' height' : ℕ) → column ≡ column' → pick ≡ pick' → width ≡ width' → height ≡ height'
    → (let one : Part = record { column = column; pick = pick; width = width; height = height } in let other : Part = record { column = column'; pick = pick'; width = width'; height = height' } in one ≡ other)
part_by column pick width height column' pick' width' height' a b w h = rw (a, b, w, h) refl
