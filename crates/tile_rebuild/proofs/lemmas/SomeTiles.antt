-- The flags of some tiles.
use Rattle.std.proofs.Common.{◌≡◌, ◌≢◌, ◌+◌, ◌<◌, ◌≤◌, ◌==◌, ◌&&◌, ◌||◌, ℕ, Bool, List, true, false, length, get_or, sym, ap, subst, ◌∙◌, ⊎_elim, eqb-true, arith}
use Rattle.std.proofs.lemmas.Bool.{cases_eq, cases_lt, and_parts, both_ways, false_from_ne_true}
use Rattle.mill_base.specs.Below.{any_below}
use Rattle.mill_base.specs.Firsts.{IsFirstTrue}
use Rattle.mill_base.specs.Grids.{GridCells}
use Rattle.mill_base.proofs.lemmas.Belows.{any_here, any_witness, any_alike, true_together}
use Rattle.draft_model.specs.declared.design.Design.{Design}
use Rattle.draft_model.specs.Designs.{Fits}
use Rattle.draft_model.proofs.lemmas.LongCells.{guarded}
use Rattle.tile_grid.specs.Tiles.{tile_of}
use Rattle.tile_rebuild.specs.declared.part.Part.{Part}
use Rattle.tile_rebuild.specs.Tiles.{grid_of, part_at}
use Rattle.tile_rebuild.specs.inner.Passes.{AreMarks, AreSomeLong, HaveLines, any_in_pick, grid_long}
use Rattle.tile_rebuild.proofs.lemmas.Designs.{grid_there}
use Rattle.tile_rebuild.proofs.lemmas.Flags.{any_next}
use Rattle.tile_rebuild.proofs.lemmas.Rebuilt.{place_of_cell}

-- ---- the lines of tiles

-- the lines of the first tiles
abbrev pub LinesSoFar : Design → List Bool → ℕ → List Bool → List Bool → Type 0
LinesSoFar design tiles from columns picks = (c p : ℕ) → c < design.size.columns → p < design.size.picks → tile_of (grid_of design) c p < from
    → get_or tiles (tile_of (grid_of design) c p) false ≡ true → (get_or columns c false ≡ true) × (get_or picks p false ≡ true)

-- a span of a row is true, and so is what was
pub record IsSpanAdded (old new : List Bool) (at count : ℕ) : Type 0 where
  pub here : (k : ℕ) → at ≤ k → k < at + count → get_or new k false ≡ true
  pub others : (k : ℕ) → get_or old k false ≡ true → get_or new k false ≡ true

-- one tile more
pub lines_more : (design : Design) (tiles columns picks columns' picks' : List Bool) (from tile : ℕ) (part : Part) → Fits design → part ≡ part_at (grid_of design) tile → IsFirstTrue tiles from tile
    → IsSpanAdded columns columns' part.column part.width → IsSpanAdded picks picks' part.pick part.height
    → LinesSoFar design tiles from columns picks → LinesSoFar design tiles (tile + 1) columns' picks'
lines_more design tiles columns picks columns' picks' from tile part fits is first across up before c p hc hp low on =
    let t = tile_of (grid_of design) c p in
    ⊎_elim
    (λ (early : t < from). let h = before c p hc hp early on in (across.others c h.0, up.others p h.1))
    (λ (late : from ≤ t). ⊎_elim
    (λ (here : t ≡ tile).
    let at = part_at (grid_of design) tile in
    let place = place_of_cell (grid_of design) tile c p (grid_there design fits) hc hp here in
    let column = place.column in
    let pick = place.pick in
    let within = place.within in
    let high = place.high in
    let of_columns = subst (λ (q : Part). IsSpanAdded columns columns' q.column q.width) is across in
    let of_picks = subst (λ (q : Part). IsSpanAdded picks picks' q.pick q.height) is up in
    (of_columns.here c (omega arith) (omega arith), of_picks.here p (omega arith) (omega arith)))
    (λ (off : t ≢ tile). absurd (both_ways (get_or tiles t false) (first.before t late (omega arith)) on))
    (cases_eq t tile))
    (cases_lt t from)

-- no tile more
pub lines_all : (design : Design) (tiles columns picks : List Bool) (from : ℕ) → LinesSoFar design tiles from columns picks → ((k : ℕ) → from ≤ k → get_or tiles k false ≡ false)
    → HaveLines design tiles columns picks
lines_all design tiles columns picks from so_far none c p hc hp on =
    let t = tile_of (grid_of design) c p in
    ⊎_elim
    (λ (early : t < from). so_far c p hc hp early on)
    (λ (late : from ≤ t). absurd (both_ways (get_or tiles t false) (none t late) on))
    (cases_lt t from)

-- ---- pick by pick

-- numbers of which none passes add nothing
any_skipped : (p : ℕ → Bool) (from n : ℕ) → from ≤ n → ((i : ℕ) → from ≤ i → i < n → p i ≡ false) → any_below p n ≡ any_below p from
any_skipped p from n ahead none = true_together (any_below p n) (any_below p from)
    (λ some. let w = any_witness p n some in ⊎_elim
    (λ (low : w.0 < from). any_here p from w.0 low w.2)
    (λ (late : from ≤ w.0). absurd (both_ways (p w.0) (none w.0 late w.1) w.2))
    (cases_lt w.0 from))
    (λ some. let w = any_witness p from some in any_here p n w.0 (let h = w.1 in omega arith) w.2)

-- tests that agree on the cells that a tile has in a pick
in_pick_same : (design : Design) (tile p : ℕ) (one other : ℕ → Bool) → ((c : ℕ) → c < design.size.columns → tile_of (grid_of design) c p ≡ tile → one c ≡ other c)
    → any_in_pick design tile p one ≡ any_in_pick design tile p other
in_pick_same design tile p one other same =
    any_alike (λ c. tile_of (grid_of design) c p == tile && one c) (λ c. tile_of (grid_of design) c p == tile && other c) design.size.columns
    (λ c h. guarded (tile_of (grid_of design) c p == tile) (one c) (other c) (λ here. same c h (eqb-true (tile_of (grid_of design) c p) tile here)))

-- a pick that is not asked for has no cell of the tiles
in_no_pick : (design : Design) (tiles columns picks : List Bool) (tile p : ℕ) (test : ℕ → Bool) → HaveLines design tiles columns picks → get_or tiles tile false ≡ true → p < design.size.picks
    → get_or picks p false ≡ false → any_in_pick design tile p test ≡ false
in_no_pick design tiles columns picks tile p test have asked hp off =
    false_from_ne_true (any_in_pick design tile p test)
    (λ some.
    let w = any_witness (λ c. tile_of (grid_of design) c p == tile && test c) design.size.columns some in
    let both = and_parts (tile_of (grid_of design) w.0 p == tile) (test w.0) w.2 in
    let here = eqb-true (tile_of (grid_of design) w.0 p) tile both.0 in
    both_ways (get_or picks p false) off (have w.0 p w.1 hp (ap (λ t. get_or tiles t false) here ∙ asked)).1)

-- a tile has a long cell in the first picks
abbrev pub long_so_far : Design → GridCells → ℕ → ℕ → Bool
long_so_far design raw tile from = any_below (λ p. any_in_pick design tile p (λ c. grid_long design raw c p)) from

pub long_skipped : (design : Design) (raw : GridCells) (tiles columns picks : List Bool) (tile from n : ℕ) → HaveLines design tiles columns picks → get_or tiles tile false ≡ true → from ≤ n
    → n ≤ design.size.picks → ((i : ℕ) → from ≤ i → i < n → get_or picks i false ≡ false) → long_so_far design raw tile n ≡ long_so_far design raw tile from
long_skipped design raw tiles columns picks tile from n have asked ahead within none =
    any_skipped (λ p. any_in_pick design tile p (λ c. grid_long design raw c p)) from n ahead
    (λ i late below. in_no_pick design tiles columns picks tile i (λ c. grid_long design raw c i) have asked (omega arith) (none i late below))

-- one pick more
pub long_more : (design : Design) (raw long : GridCells) (tiles columns picks marks : List Bool) (tile from pick : ℕ) (before after : Bool) → HaveLines design tiles columns picks
    → AreSomeLong design columns raw long → get_or tiles tile false ≡ true → IsFirstTrue picks from pick → length picks ≡ design.size.picks → AreMarks design raw long marks pick
    → after ≡ (before || any_in_pick design tile pick (λ c. get_or marks c false)) → before ≡ long_so_far design raw tile from → after ≡ long_so_far design raw tile (pick + 1)
long_more design raw long tiles columns picks marks tile from pick before after have ends asked first size each is so_far =
    let low : pick < design.size.picks = let h = first.within in omega (arith, size) in
    let some = λ (p : ℕ). any_in_pick design tile p (λ c. grid_long design raw c p) in
    is
    ∙ ap (λ b. b || any_in_pick design tile pick (λ c. get_or marks c false))
    (so_far ∙ sym (long_skipped design raw tiles columns picks tile from pick have asked first.ahead (omega arith) first.before))
    ∙ ap (λ b. any_below some pick || b)
    (in_pick_same design tile pick (λ c. get_or marks c false) (λ c. grid_long design raw c pick)
    (λ c hc here. each c hc (ends c pick hc low (have c pick hc low (ap (λ t. get_or tiles t false) here ∙ asked)).0)))
    ∙ sym (any_next some pick)
