-- Images of cloths and papers. The top row of an image is the highest pick, by a rule of this project's own.
use Rattle.std.specs.Prelude.{ℕ, ◌-◌, Bool, List, ◌∷◌, ◌++◌, length, map, replicate, reverse, if◌then◌else◌}
use Rattle.std.specs.List.{concat}
use Rattle.mill_base.specs.Lines.{line_by}
use Rattle.mill_base.specs.declared.limits.TheConstants.{MAX_COLOURS}
use Rattle.point_paper.specs.Papers.{PaperCells, pick_of}
use Rattle.draft_model.specs.Cloths.{ClothCells}
use Rattle.tiff_palette.specs.declared.image.PaletteImage.{PaletteImage}

-- the rows of an image, of which the first is the lowest pick, as pixels: the top row first
abbrev pub pixels_of : List (List ℕ) → List ℕ
pixels_of rows = concat (reverse rows)

-- a pixel is 1 for a lifted cell and 0 for an unlifted one
abbrev pub pixel : Bool → ℕ
pixel lifted = if lifted then 1 else 0

-- colour 0 is white and all others are black: as much red, green or blue as 16 bits say, or none
unfoldable pub cloth_shade : List ℕ
cloth_shade = 65535 ∷ replicate (MAX_COLOURS - 1) 0

abbrev pub cloth_map : List ℕ
cloth_map = cloth_shade ++ cloth_shade ++ cloth_shade

-- the image of a cloth has a pixel for each end of each pick
abbrev pub cloth_image : ClothCells → PaletteImage
cloth_image cloth = record { width = cloth.ends; height = length cloth.rows; pixels = pixels_of (map (map pixel) cloth.rows); colour_map = cloth_map }

-- the image of a paper has the colour number of each column of each pick
abbrev pub paper_image : List ℕ → PaperCells → PaletteImage
paper_image colour_map paper = record { width = paper.columns; height = paper.picks; pixels = pixels_of (line_by paper.picks (pick_of paper)); colour_map = colour_map }
