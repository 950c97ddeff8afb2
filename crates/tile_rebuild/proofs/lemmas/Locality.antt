-- The tiles near a tile decide its cells.
use Rattle.std.proofs.Common.{◌≡◌, ◌<◌, ◌&&◌, ℕ, max, Bool, true, length, sym, ap, subst, ◌∙◌, arith, eqb-true}
use Rattle.std.specs.Prelude.{slice_index, ◌==◌}
use Rattle.std.proofs.lemmas.Bool.Decides.{nat_tests}
use Rattle.mill_base.specs.Below.{any_below}
use Rattle.mill_base.proofs.lemmas.Belows.{any_alike}
use Rattle.weave_book.specs.Books.{colour_mark}
use Rattle.cloth_floats.specs.Windows.{IsNear}
use Rattle.point_paper.specs.Papers.{PaperCells, BitCells, cell_of, bit_cell}
use Rattle.draft_model.specs.declared.design.Design.{Design}
use Rattle.draft_model.specs.Designs.{Fits, IsPaperOf, IsBitsOf}
use Rattle.draft_model.specs.Cells.{AgreeAround, bound_by, long_cell_by}
use Rattle.draft_model.specs.Cloths.{raw_cell}
use Rattle.draft_model.specs.Drawdowns.{column_long}
use Rattle.draft_model.proofs.lemmas.LongCells.{guarded}
use Rattle.tile_grid.specs.Tiles.{GridValue, tile_of}
use Rattle.tile_grid.specs.Near.{any_cell, is_near, near}
use Rattle.tile_rebuild.specs.Tiles.{AgreeIn, AgreeNear, bound_in, grid_of, has_long}
use Rattle.tile_rebuild.proofs.lemmas.Rebuilt.{IsBoundByLines, IsLongByLines}

is_near_from : (n limit x y : ℕ) → IsNear n limit x y → is_near n limit x y ≡ true
is_near_from n limit x y close = grind (arith, nat_tests)

-- the laws of near tiles, as they are handed in
pub record NearLaws (design : Design) : Type 0 where
  pub itself : (t : ℕ) → near (grid_of design) t t ≡ true
  pub ends : (e f p : ℕ) → e < length design.tie.ends → f < length design.tie.ends → p < design.size.picks
      → is_near (length design.tie.ends) (max design.weft_back design.weft_face) e f ≡ true
      → near (grid_of design) (tile_of (grid_of design) (slice_index design.tie.ends e) p) (tile_of (grid_of design) (slice_index design.tie.ends f) p) ≡ true
  pub picks : (c p q : ℕ) → c < design.size.columns → p < design.size.picks → q < design.size.picks
      → is_near design.size.picks (max design.warp_face design.warp_back) p q ≡ true
      → near (grid_of design) (tile_of (grid_of design) c p) (tile_of (grid_of design) c q) ≡ true

-- papers that agree on the near tiles agree around each cell of the tile
around : (design : Design) (tile c p : ℕ) (one other : ℕ → ℕ → Bool) → Fits design → NearLaws design → AgreeNear (grid_of design) tile one other
    → c < design.size.columns → p < design.size.picks → tile_of (grid_of design) c p ≡ tile
    → AgreeAround design (λ x. one x p) (λ x. other x p) (λ y. one c y) (λ y. other c y) c p
around design tile c p one other fits laws agree hc hp here = record {
  along_pick = λ e x he tied hx close. agree (slice_index design.tie.ends x) p (fits.tied x 0 hx) hp
      (subst (λ t. near (grid_of design) t (tile_of (grid_of design) (slice_index design.tie.ends x) p) ≡ true)
      (ap (λ k. tile_of (grid_of design) k p) tied ∙ here)
      (laws.ends e x p he hx hp (is_near_from (length design.tie.ends) (max design.weft_back design.weft_face) e x close)));
  along_end = λ y hy close. agree c y hc hy
      (subst (λ t. near (grid_of design) t (tile_of (grid_of design) c y) ≡ true) here
      (laws.picks c p y hc hp hy (is_near_from design.size.picks (max design.warp_face design.warp_back) p y close)));
}

-- the law of a cell, as it is handed in
abbrev pub AreBoundAround : Design → Type 0
AreBoundAround design = (row other_row cells other_cells : ℕ → Bool) (column pick : ℕ) → pick < design.size.picks → AgreeAround design row other_row cells other_cells column pick
    → row column ≡ other_row column → bound_by design row cells column pick ≡ bound_by design other_row other_cells column pick

abbrev pub AreLongAround : Design → Type 0
AreLongAround design = (row other_row cells other_cells : ℕ → Bool) (column pick : ℕ) → pick < design.size.picks → AgreeAround design row other_row cells other_cells column pick
    → long_cell_by design row cells column pick ≡ long_cell_by design other_row other_cells column pick

pub bound_alike : (design : Design) (tile : ℕ) (one other : PaperCells) → Fits design → IsBoundByLines design → AreBoundAround design → NearLaws design → IsPaperOf design one → IsPaperOf design other
    → AgreeNear (grid_of design) tile (cell_of one) (cell_of other) → AgreeIn (grid_of design) tile (bound_in design one) (bound_in design other)
bound_alike design tile one other fits lines decide laws is is_too agree c p hc hp here =
    let raw = λ (paper : PaperCells). raw_cell design.book paper in
    let same : AgreeNear (grid_of design) tile (raw one) (raw other) = λ x y hx hy close. ap (λ colour. colour_mark design.book colour x y) (agree x y hx hy close) in
    lines one c p is hc hp
    ∙ decide (λ x. raw one x p) (λ x. raw other x p) (λ y. raw one c y) (λ y. raw other c y) c p hp (around design tile c p (raw one) (raw other) fits laws same hc hp here)
    (same c p hc hp (subst (λ t. near (grid_of design) tile t ≡ true) (sym here) (laws.itself tile)))
    ∙ sym (lines other c p is_too hc hp)

pub long_alike : (design : Design) (tile : ℕ) (one other : BitCells) → Fits design → IsLongByLines design → AreLongAround design → NearLaws design → IsBitsOf design one → IsBitsOf design other
    → AgreeNear (grid_of design) tile (bit_cell one) (bit_cell other) → AgreeIn (grid_of design) tile (column_long design one) (column_long design other)
long_alike design tile one other fits lines decide laws is is_too agree c p hc hp here =
    lines one c p hc is.picks hp
    ∙ decide (λ x. bit_cell one x p) (λ x. bit_cell other x p) (λ y. bit_cell one c y) (λ y. bit_cell other c y) c p hp
    (around design tile c p (bit_cell one) (bit_cell other) fits laws agree hc hp here)
    ∙ sym (lines other c p hc is_too.picks hp)

-- tests that agree on a tile pass on a cell of it alike
pub any_cell_alike : (grid : GridValue) (tile : ℕ) (one other : ℕ → ℕ → Bool) → AgreeIn grid tile one other → any_cell grid tile one ≡ any_cell grid tile other
unfolding any_cell
any_cell_alike grid tile one other same =
    any_alike (λ p. any_below (λ c. tile_of grid c p == tile && one c p) grid.columns) (λ p. any_below (λ c. tile_of grid c p == tile && other c p) grid.columns) grid.picks
    (λ p hp. any_alike (λ c. tile_of grid c p == tile && one c p) (λ c. tile_of grid c p == tile && other c p) grid.columns
    (λ c hc. guarded (tile_of grid c p == tile) (one c p) (other c p) (λ here. same c p hc hp (eqb-true (tile_of grid c p) tile here))))

pub flag_alike : (design : Design) (tile : ℕ) (one other : BitCells) → AgreeIn (grid_of design) tile (column_long design one) (column_long design other)
    → has_long design one tile ≡ has_long design other tile
unfolding has_long
flag_alike design tile one other same = any_cell_alike (grid_of design) tile (column_long design one) (column_long design other) same
