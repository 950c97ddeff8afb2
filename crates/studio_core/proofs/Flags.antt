-- The flags of all tiles say whether a float is kept.
use Rattle.std.proofs.Common.{◌≡◌, ◌<◌, ◌==◌, ◌&&◌, ℕ, pos, Bool, true, false, List, length, get_or, refl, sym, ap, ◌∙◌, subst, eq-eqb}
use Rattle.std.specs.Prelude.{Option, Some, None, is_some, slice_index}
use Rattle.std.proofs.lemmas.Bool.{both_ways, and_from, and_parts, false_from_ne_true}
use Rattle.mill_base.specs.Below.{any_below}
use Rattle.mill_base.proofs.lemmas.Belows.{any_here, any_witness}
use Rattle.point_paper.specs.Papers.{BitCells}
use Rattle.draft_model.specs.declared.design.Design.{Design}
use Rattle.draft_model.specs.declared.float_run.FloatRun.{FloatRun}
use Rattle.draft_model.specs.Designs.{Fits, IsBitsOf}
use Rattle.draft_model.specs.Drawdowns.{column_long}
use Rattle.draft_model.specs.Floats.{first_float, keeps, long}
use Rattle.tile_grid.specs.Tiles.{tile_of, tiles}
use Rattle.tile_grid.proofs.lemmas.Near.{any_cell_here, any_cell_witness}
use Rattle.tile_grid.proofs.lemmas.Tiles.{tile_there}
use Rattle.tile_rebuild.specs.Tiles.{grid_of, has_long}
use Rattle.tile_rebuild.proofs.lemmas.Designs.{grid_there}

-- a kept float has a cell in some tile
kept_long : (design : Design) (bits : BitCells) → Fits design → IsBitsOf design bits → keeps design bits ≡ true → (t : ℕ) × (t < tiles (grid_of design)) × (has_long design bits t ≡ true)
unfolding keeps has_long column_long
kept_long design bits fits of kept =
    let ends = design.tie.ends in
    let grid = grid_of design in
    let p = any_witness (λ p. any_below (λ e. long design bits (pos e) (pos p)) (length ends)) (length bits.rows) kept in
    let e = any_witness (λ e. long design bits (pos e) (pos p.0)) (length ends) p.2 in
    let c = slice_index ends e.0 in
    let hc : c < design.size.columns = fits.tied e.0 0 e.1 in
    let hp : p.0 < design.size.picks = subst (λ n. p.0 < n) of.picks p.1 in (
      tile_of grid c p.0,
      tile_there grid c p.0 (grid_there design fits) hc hp,
      any_cell_here grid (tile_of grid c p.0) (column_long design bits) (record {
        c = c;
        p = p.0;
        c_low = hc;
        p_low = hp;
        of_tile = refl;
        passes = any_here (λ e. slice_index ends e == c && long design bits (pos e) (pos p.0)) (length ends) e.0 e.1
            (and_from (slice_index ends e.0 == c) (long design bits (pos e.0) (pos p.0)) (eq-eqb (slice_index ends e.0) c refl) e.2);
      }),
    )

-- a long cell of a tile is one of a kept float
long_kept : (design : Design) (bits : BitCells) (t : ℕ) → IsBitsOf design bits → has_long design bits t ≡ true → keeps design bits ≡ true
unfolding keeps has_long column_long
long_kept design bits t of some =
    let ends = design.tie.ends in
    let w = any_cell_witness (grid_of design) t (column_long design bits) some in
    let e = any_witness (λ e. slice_index ends e == w.c && long design bits (pos e) (pos w.p)) (length ends) w.passes in
    let both = and_parts (slice_index ends e.0 == w.c) (long design bits (pos e.0) (pos w.p)) e.2 in
    any_here (λ p. any_below (λ e. long design bits (pos e) (pos p)) (length ends)) (length bits.rows) w.p (subst (λ n. w.p < n) (sym of.picks) w.p_low)
    (any_here (λ e. long design bits (pos e) (pos w.p)) (length ends) e.0 e.1 both.1)

-- what the law of kept floats says
abbrev pub IsTold : Design → BitCells → Type 0
IsTold design bits = keeps design bits ≡ is_some (first_float design bits)

none_told : (o : Option FloatRun) → is_some o ≡ false → o ≡ None
none_told None h = refl
none_told (Some float) h = absurd (both_ways true h refl)

-- where no flag is set no float is told
pub none_by_flags : (design : Design) (bits : BitCells) (flags : List Bool) → Fits design → IsBitsOf design bits → IsTold design bits
    → ((t : ℕ) → t < tiles (grid_of design) → get_or flags t false ≡ has_long design bits t) → ((t : ℕ) → get_or flags t false ≡ false) → None ≡ first_float design bits
none_by_flags design bits flags fits of told right none =
    sym (none_told (first_float design bits) (sym told ∙ false_from_ne_true (keeps design bits) (λ kept.
    let w = kept_long design bits fits of kept in
    both_ways (has_long design bits w.0) (sym (right w.0 w.1) ∙ none w.0) w.2)))

-- where no float is told no flag is set
pub flags_by_none : (design : Design) (bits : BitCells) (flags : List Bool) (float : Option FloatRun) → IsBitsOf design bits → IsTold design bits
    → ((t : ℕ) → t < tiles (grid_of design) → get_or flags t false ≡ has_long design bits t) → float ≡ first_float design bits → float ≡ None
    → (t : ℕ) → t < tiles (grid_of design) → get_or flags t false ≡ false
flags_by_none design bits flags float of told right is none t h =
    right t h ∙ false_from_ne_true (has_long design bits t) (λ some. both_ways (keeps design bits) (told ∙ sym (ap is_some is) ∙ ap is_some none) (long_kept design bits t of some))
