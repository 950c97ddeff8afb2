-- Machines of which each hook has a column.
use Rattle.std.proofs.Common.{◌≡◌, All, ℕ, zero, suc, ◌+◌, ◌-◌, ◌<◌, ◌≤◌, ◌==◌, ◌&&◌, Bool, false, List, length, get_or, sym, ap, ◌∙◌, arith}
use Rattle.std.proofs.lemmas.List.{ext_get_or}
use Rattle.mill_base.specs.Below.{any_below}
use Rattle.mill_base.proofs.lemmas.Lines.{length-line_by}
use Rattle.casting_out.specs.Castings.{CastingValue, IsCasting}
use Rattle.casting_out.specs.Cards.{on_hooks}

abbrev Rising : List ℕ → Type 0
Rising columns = (c d : ℕ) → c < d → d < length columns → get_or columns c 0 < get_or columns d 0

at_least : (columns : List ℕ) → Rising columns → (c : ℕ) → c < length columns → c ≤ get_or columns c 0
at_least columns rising zero low = omega arith
at_least columns rising (suc c) low =
    let before = at_least columns rising c (omega (arith, low)) in
    let up = rising c (suc c) (omega arith) low in
    omega (arith, before, up)

at_most : (columns : List ℕ) (hooks : ℕ) → Rising columns → All (λ h. h < hooks) columns → length columns ≡ hooks → (k c : ℕ) → c + suc k ≡ hooks → get_or columns c 0 ≤ c
at_most columns hooks rising there long zero c end =
    let below = there c 0 (omega (arith, end, long)) in
    omega (arith, below, end)
at_most columns hooks rising there long (suc k) c end =
    let after = at_most columns hooks rising there long k (suc c) (omega (arith, end)) in
    let up = rising c (suc c) (omega arith) (omega (arith, end, long)) in
    omega (arith, after, up)

-- each column hangs on the hook of its own number
pub own_hook : (casting : CastingValue) (c : ℕ) → IsCasting casting → length casting.columns ≡ casting.hooks → c < casting.hooks → get_or casting.columns c 0 ≡ c
own_hook casting c is all low =
    let least = at_least casting.columns is.rising c (omega (arith, low, all)) in
    let most = at_most casting.columns casting.hooks is.rising is.there all (casting.hooks - suc c) c (omega (arith, low)) in
    omega (arith, least, most)

-- the cell of a column at its hook, as the laws of castings state it
abbrev pub CellBack : Type 0
CellBack = (casting : CastingValue) (row : List Bool) (c : ℕ) → IsCasting casting → c < length casting.columns
    → get_or (on_hooks casting.hooks casting.columns row) (get_or casting.columns c 0) false ≡ get_or row c false

-- so a row on the hooks is the row
pub whole_row : CellBack → (casting : CastingValue) (row : List Bool) → IsCasting casting → length casting.columns ≡ casting.hooks → length row ≡ length casting.columns
    → row ≡ on_hooks casting.hooks casting.columns row
whole_row cell casting row is all long =
    let wide = length-line_by casting.hooks (λ h. any_below (λ c. (get_or casting.columns c 0 == h) && get_or row c false) (length casting.columns)) in
    ext_get_or false row (on_hooks casting.hooks casting.columns row) (omega (arith, long, all, wide)) (λ h low.
    let below : h < length casting.columns = omega (arith, low, long) in
    sym (cell casting row h is below)
    ∙ ap (λ (k : ℕ). get_or (on_hooks casting.hooks casting.columns row) k false) (own_hook casting h is all (omega (arith, below, all))))
