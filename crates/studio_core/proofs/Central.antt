-- What keeps the central fact.
use Rattle.std.proofs.Common.{◌≡◌, ◌≢◌, ◌+◌, ◌-◌, ◌<◌, ◌&&◌, ◌||◌, ℕ, Bool, true, false, List, [], length, get_or, set, get_or-set_same, get_or-set_other, refl, sym, ap, subst, ◌∙◌, ⊎_elim, arith}
use Rattle.std.proofs.lemmas.Bool.{cases_eq, both_ways, and_from, false_from_ne_true, or_parts}
use Rattle.mill_base.specs.Below.{any_below}
use Rattle.mill_base.specs.Grids.{GridCells}
use Rattle.mill_base.proofs.lemmas.Belows.{any_here}
use Rattle.mill_base.proofs.lemmas.Lines.{length-line_by, get_or-line_by}
use Rattle.point_paper.specs.Papers.{PaperCells, BitCells, IsBitPaper, bit_cell, cell_of}
use Rattle.point_paper.proofs.lemmas.Bits.{same_bits}
use Rattle.draft_model.specs.declared.design.Design.{Design}
use Rattle.draft_model.specs.Cloths.{raw}
use Rattle.draft_model.specs.Designs.{Fits, IsBitsOf, IsPaperOf}
use Rattle.draft_model.specs.Drawdowns.{bound, cell_bound}
use Rattle.tile_grid.specs.Near.{near}
use Rattle.tile_grid.specs.Tiles.{tile_of, tiles}
use Rattle.tile_grid.proofs.lemmas.Tiles.{tile_there}
use Rattle.tile_marks.specs.Marks.{NoneFrom}
use Rattle.tile_rebuild.specs.declared.part.Part.{Part}
use Rattle.tile_rebuild.specs.Lines.{AreBitsOf, AreColoursOf}
use Rattle.tile_rebuild.specs.Rebuilds.{AreBound, IsFlag, IsPut}
use Rattle.tile_rebuild.specs.Tiles.{AgreeIn, AgreeNear, HasCell, bound_in, grid_of, has_long, part_at}
use Rattle.tile_rebuild.proofs.lemmas.Designs.{grid_there}
use Rattle.tile_rebuild.proofs.lemmas.Rebuilt.{place_of_cell, tile_of-part}
use Rattle.studio_core.specs.Cores.{AreCells, AreFlags, IsCentral}
use Rattle.studio_core.specs.Gives.{IsNearClear}
use Rattle.studio_core.specs.Touches.{near_any}

-- ---- bound papers

pub columns-bound : (design : Design) (paper : PaperCells) → (bound design paper).columns ≡ paper.columns
unfolding bound
columns-bound design paper = refl

pub picks-bound : (design : Design) (paper : PaperCells) → length (bound design paper).rows ≡ paper.picks
unfolding bound
picks-bound design paper = length-line_by paper.picks _

pub whole_bound : (design : Design) (paper : PaperCells) → IsBitPaper (bound design paper)
unfolding bound
whole_bound design paper p h =
    ap length (get_or-line_by paper.picks _ p [] (subst (λ n. p < n) (picks-bound design paper) h)) ∙ length-line_by paper.columns (λ c. cell_bound design (raw design.book paper) c p)

pub bound_of_design : (design : Design) (paper : PaperCells) → IsPaperOf design paper → IsBitsOf design (bound design paper)
bound_of_design design paper is = record { columns = columns-bound design paper ∙ is.columns; picks = picks-bound design paper ∙ is.picks }

-- ---- tiles that are bound and checked

-- a cell of a tile's part is one of the tile, and the other way round
has_cell : (design : Design) (tile c p : ℕ) → Fits design → c < design.size.columns → p < design.size.picks → tile_of (grid_of design) c p ≡ tile → HasCell (part_at (grid_of design) tile) c p
has_cell design tile c p fits hc hp here =
    let place = place_of_cell (grid_of design) tile c p (grid_there design fits) hc hp here in
    let column = place.column in
    let pick = place.pick in
    let within = place.within in
    let high = place.high in
    record { from_column = omega arith; to_column = omega arith; from_pick = omega arith; to_pick = omega arith }

of_tile : (design : Design) (tile c p : ℕ) → HasCell (part_at (grid_of design) tile) c p → tile_of (grid_of design) c p ≡ tile
of_tile design tile c p has =
    let grid = grid_of design in
    let part = part_at grid tile in
    let a : part.column + (c - part.column) ≡ c = let h = has.from_column in omega arith in
    let b : part.pick + (p - part.pick) ≡ p = let h = has.from_pick in omega arith in
    ap (λ n. tile_of grid n p) (sym a) ∙ ap (tile_of grid (part.column + (c - part.column))) (sym b)
    ∙ tile_of-part grid tile (c - part.column) (p - part.pick) (let h = has.to_column in let k = has.from_column in omega arith) (let h = has.to_pick in let k = has.from_pick in omega arith)

-- cells that are right for the present lines of a tile, put in place, clear its mark
pub bound_put : (design : Design) (tile : ℕ) (part : Part) (paper : PaperCells) (bits bits' : BitCells) (along up : List ℕ) (marks : List Bool) (cells : GridCells) → Fits design
    → part ≡ part_at (grid_of design) tile → IsPaperOf design paper → AreCells design paper bits marks → AreBound design tile along up cells → AreColoursOf part paper along up → IsPut part cells bits bits'
    → AreCells design paper bits' (set marks tile false)
bound_put design tile part paper bits bits' along up marks cells fits part_is is before right lines put =
    let here = part_at (grid_of design) tile in
    let placed = subst (λ (p : Part). IsPut p cells bits bits') part_is put in
    let crossed = subst (λ (p : Part). AreColoursOf p paper along up) part_is lines in
    λ c p hc hp clear. ⊎_elim
    (λ (in_tile : tile_of (grid_of design) c p ≡ tile). placed.here c p (has_cell design tile c p fits hc hp in_tile) ∙ right paper is crossed c p hc hp in_tile)
    (λ (off : tile_of (grid_of design) c p ≢ tile).
    placed.others c p (λ has. off (of_tile design tile c p has)) ∙ before c p hc hp (sym (get_or-set_other marks tile (tile_of (grid_of design) c p) false false off) ∙ clear))
    (cases_eq (tile_of (grid_of design) c p) tile)

-- once no mark stands the bits are the bound paper
pub all_bound : (design : Design) (paper : PaperCells) (bits : BitCells) (marks : List Bool) → IsPaperOf design paper → IsBitsOf design bits → IsBitPaper bits → AreCells design paper bits marks
    → NoneFrom marks 0 → bits ≡ bound design paper
all_bound design paper bits marks is of whole right clear =
    same_bits bits (bound design paper) whole (whole_bound design paper) (record {
      columns = of.columns ∙ sym is.columns ∙ sym (columns-bound design paper);
      picks = of.picks ∙ sym is.picks ∙ sym (picks-bound design paper);
      cells = λ c p hc hp. right c p (subst (λ n. c < n) of.columns hc) (subst (λ n. p < n) of.picks hp) (clear (tile_of (grid_of design) c p) (omega arith));
    })

-- ---- what the laws of near tiles say of a design

pub record IsLocal (design : Design) : Type 0 where
  pub cells : (tile : ℕ) (one other : PaperCells) → IsPaperOf design one → IsPaperOf design other
      → AgreeNear (grid_of design) tile (cell_of one) (cell_of other) → AgreeIn (grid_of design) tile (bound_in design one) (bound_in design other)
  pub flag : (tile : ℕ) (one other : BitCells) → IsBitsOf design one → IsBitsOf design other
      → AgreeNear (grid_of design) tile (bit_cell one) (bit_cell other) → has_long design one tile ≡ has_long design other tile
  pub symmetric : (t u : ℕ) → near (grid_of design) t u ≡ near (grid_of design) u t

-- ---- painting

-- two papers have the same cells in all tiles that are not touched
abbrev pub DifferIn : Design → (ℕ → Bool) → PaperCells → PaperCells → Type 0
DifferIn design touched old new = (c p : ℕ) → c < design.size.columns → p < design.size.picks → touched (tile_of (grid_of design) c p) ≡ false → cell_of new c p ≡ cell_of old c p

-- a tile that is near none that is touched is touched by none that is near it
far_untouched : (design : Design) (touched : ℕ → Bool) (u t : ℕ) → IsLocal design → t < tiles (grid_of design) → near_any (grid_of design) touched u ≡ false
    → near (grid_of design) u t ≡ true → touched t ≡ false
unfolding near_any
far_untouched design touched u t laws there far close =
    false_from_ne_true (touched t) (λ reached.
    both_ways (any_below (λ t. touched t && near (grid_of design) t u) (tiles (grid_of design))) far
    (any_here (λ t. touched t && near (grid_of design) t u) (tiles (grid_of design)) t there (and_from (touched t) (near (grid_of design) t u) reached (laws.symmetric t u ∙ close))))

-- a cell of a tile that is near no touched one keeps its bound cell
bound_stays : (design : Design) (touched : ℕ → Bool) (old new : PaperCells) (c p : ℕ) → Fits design → IsLocal design → IsPaperOf design old → IsPaperOf design new → DifferIn design touched old new
    → c < design.size.columns → p < design.size.picks → near_any (grid_of design) touched (tile_of (grid_of design) c p) ≡ false → bound_in design new c p ≡ bound_in design old c p
bound_stays design touched old new c p fits laws is is_too differ hc hp far =
    let grid = grid_of design in
    laws.cells (tile_of grid c p) new old is_too is
    (λ d q hd hq close. differ d q hd hq (far_untouched design touched (tile_of grid c p) (tile_of grid d q) laws (tile_there grid d q (grid_there design fits) hd hq) far close))
    c p hc hp refl

-- A paint that touches some tiles, with the tiles near these marked for binding and the tiles near those for checking, keeps the central
-- fact.
pub painted : (design : Design) (touched : ℕ → Bool) (old new : PaperCells) (bits : BitCells) (bind check flags bind' check' : List Bool) → Fits design → IsLocal design
    → IsPaperOf design old → IsPaperOf design new → DifferIn design touched old new → IsCentral design old bits bind check flags
    → ((u : ℕ) → u < tiles (grid_of design) → get_or bind' u false ≡ (get_or bind u false || near_any (grid_of design) touched u))
    → ((u : ℕ) → u < tiles (grid_of design) → get_or check' u false ≡ (get_or check u false || near_any (grid_of design) (near_any (grid_of design) touched) u))
    → IsCentral design new bits bind' check' flags
painted design touched old new bits bind check flags bind' check' fits laws is is_too differ central binds checks =
    let grid = grid_of design in
    let there = λ (c p : ℕ) (hc : c < design.size.columns) (hp : p < design.size.picks). tile_there grid c p (grid_there design fits) hc hp in
    record {
      cells = λ c p hc hp clear.
          let u = tile_of grid c p in
          let both = or_parts (get_or bind u false) (near_any grid touched u) (sym (binds u (there c p hc hp)) ∙ clear) in
          central.cells c p hc hp both.0 ∙ sym (bound_stays design touched old new c p fits laws is is_too differ hc hp both.1);
      long = λ w hw clear.
          let both = or_parts (get_or check w false) (near_any grid (near_any grid touched) w) (sym (checks w hw) ∙ clear) in
          central.long w hw both.0
          ∙ sym (laws.flag w (bound design new) (bound design old) (bound_of_design design new is_too) (bound_of_design design old is)
          (λ d q hd hq close.
          bound_stays design touched old new d q fits laws is is_too differ hd hq
          (far_untouched design (near_any grid touched) w (tile_of grid d q) laws (there d q hd hq) both.1 close)));
    }

-- ---- results

-- a flag that is right for the lines of a tile in the bits, where no near tile has a bind mark, clears the tile's check mark
pub flag_put : (design : Design) (tile : ℕ) (part : Part) (paper : PaperCells) (bits : BitCells) (bind check flags : List Bool) (along up : GridCells) (flag : Bool) → Fits design → IsLocal design
    → part ≡ part_at (grid_of design) tile → IsPaperOf design paper → IsBitsOf design bits → IsCentral design paper bits bind check flags → tile < length flags
    → IsFlag design tile along up flag → AreBitsOf part bits along up → IsNearClear (grid_of design) tile bind
    → AreFlags design (bound design paper) (set check tile false) (set flags tile flag)
flag_put design tile part paper bits bind check flags along up flag fits laws part_is is of central room right lines clear =
    let grid = grid_of design in
    let crossed = subst (λ (p : Part). AreBitsOf p bits along up) part_is lines in
    λ w hw unmarked. ⊎_elim
    (λ (here : w ≡ tile).
    let agree : has_long design bits tile ≡ has_long design (bound design paper) tile =
    laws.flag tile bits (bound design paper) of (bound_of_design design paper is)
    (λ d q hd hq close. central.cells d q hd hq (clear (tile_of grid d q) (tile_there grid d q (grid_there design fits) hd hq) close)) in
    subst (λ (n : ℕ). get_or (set flags tile flag) n false ≡ has_long design (bound design paper) n) (sym here)
    (get_or-set_same flags tile flag false room ∙ right bits of crossed ∙ agree))
    (λ (off : w ≢ tile).
    get_or-set_other flags tile w flag false off ∙ central.long w hw (sym (get_or-set_other check tile w false false off) ∙ unmarked))
    (cases_eq w tile)
