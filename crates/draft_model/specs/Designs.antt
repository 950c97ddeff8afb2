-- Which designs and papers go together.
use Rattle.std.specs.Prelude.{◌≡◌, ◌*◌, ◌<◌, ◌≤◌, ℕ, length, All}
use Rattle.mill_base.specs.Limits.{IsWithin}
use Rattle.mill_base.specs.declared.limits.TheConstants.{MAX_COLUMNS, MAX_PICKS, MAX_COLOURS, MAX_ENDS, MAX_CLOTH_CELLS, MAX_HOOKS, MAX_FLOAT, MIN_TILE, MAX_TILE}
use Rattle.point_paper.specs.Papers.{PaperCells, BitCells, cell_of}
use Rattle.draft_model.specs.declared.design.Design.{Design}

-- The book has a weave, the tie and the casting are for the paper's columns (so that each end has one of them), and the sizes, the
-- number of cells of a repeat, the float limits and the side of a tile are within the studio's limits.
pub record Fits (design : Design) : Type 0 where
  pub columns : IsWithin 1 design.size.columns MAX_COLUMNS
  pub picks : IsWithin 1 design.size.picks MAX_PICKS
  pub weaves : IsWithin 1 (length design.book) MAX_COLOURS
  pub tie : design.tie.columns ≡ design.size.columns
  pub ends : IsWithin 1 (length design.tie.ends) MAX_ENDS
  pub tied : All (λ column. column < design.size.columns) design.tie.ends
  pub cells : length design.tie.ends * design.size.picks ≤ MAX_CLOTH_CELLS
  pub casting : length design.casting.columns ≡ design.size.columns
  pub hooks : IsWithin 1 design.casting.hooks MAX_HOOKS
  pub weft_face : IsWithin 1 design.weft_face MAX_FLOAT
  pub weft_back : IsWithin 1 design.weft_back MAX_FLOAT
  pub warp_face : IsWithin 1 design.warp_face MAX_FLOAT
  pub warp_back : IsWithin 1 design.warp_back MAX_FLOAT
  pub tile : IsWithin MIN_TILE design.tile MAX_TILE

-- the paper has the design's size, and each of its colours has a weave
pub record IsPaperOf (design : Design) (paper : PaperCells) : Type 0 where
  pub columns : paper.columns ≡ design.size.columns
  pub picks : paper.picks ≡ design.size.picks
  pub colours : (column pick : ℕ) → column < paper.columns → pick < paper.picks → cell_of paper column pick < length design.book

-- the paper of truth values has the design's size
pub record IsBitsOf (design : Design) (bits : BitCells) : Type 0 where
  pub columns : bits.columns ≡ design.size.columns
  pub picks : length bits.rows ≡ design.size.picks
