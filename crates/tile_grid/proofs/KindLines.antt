-- The kinds of the places of a line.
use Rattle.std.proofs.Common.{◌≡◌, ℕ, ◌+◌, ◌<◌, ◌==◌, ◌&&◌, ◌||◌, List, [], ◌∷◌, ◌++◌, Result, IfOk, length, sym, ap, subst, ◌∙◌}
use Rattle.std.specs.Prelude.{slice_index}
use Rattle.std.proofs.lemmas.Result.{IfOk-weaker}
use Rattle.mill_base.specs.Below.{any_below}
use Rattle.mill_base.specs.Grids.{GridCells}
use Rattle.mill_base.specs.Lines.{line_by}
use Rattle.mill_base.proofs.lemmas.Belows.{any_alike}
use Rattle.mill_base.proofs.lemmas.Lines.{length-line_by, get_or-line_by, line_by_more}
use Rattle.tile_grid.specs.Near.{is_near, kinds_near}
use Rattle.tile_grid.specs.inner.Tables.{IsTable}
use Rattle.tile_grid.proofs.Walked.{table_alike}

pub line_none : (xs : List ℕ) (f : ℕ → ℕ) → xs ≡ [] → xs ≡ line_by 0 f
unfolding line_by
line_none xs f is = is

pub line_pushed : (xs ys : List ℕ) (n x : ℕ) (f : ℕ → ℕ) → xs ≡ line_by n f → ys ≡ xs ++ x ∷ [] → x ≡ f n → ys ≡ line_by (n + 1) f
line_pushed xs ys n x f before more is = more ∙ ap (λ line. line ++ x ∷ []) before ∙ ap (λ m. line_by n f ++ m ∷ []) is ∙ sym (line_by_more n f)

-- lines whose places have the same kinds
kinds_alike : (n limit a b : ℕ) (one other : ℕ → ℕ) → ((x : ℕ) → x < n → one x ≡ other x) → kinds_near n limit one a b ≡ kinds_near n limit other a b
unfolding kinds_near
kinds_alike n limit a b one other same =
    any_alike (λ x. one x == a && any_below (λ y. one y == b && is_near n limit x y) n) (λ x. other x == a && any_below (λ y. other y == b && is_near n limit x y) n) n
    (λ x hx. ap (λ k. k == a && any_below (λ y. one y == b && is_near n limit x y) n) (same x hx)
    ∙ ap (λ t. other x == a && t)
    (any_alike (λ y. one y == b && is_near n limit x y) (λ y. other y == b && is_near n limit x y) n (λ y hy. ap (λ k. k == b && is_near n limit x y) (same y hy))))

pub kind_at : (kinds : List ℕ) (n : ℕ) (f : ℕ → ℕ) → kinds ≡ line_by n f → (x : ℕ) → x < n → slice_index kinds x ≡ f x
kind_at kinds n f are x h = ap (λ xs. slice_index xs x) are ∙ get_or-line_by n f x 0 h

-- the table of the kinds that are listed is that of the kinds by their formula
pub table_of_kinds : (kinds : List ℕ) (n limit count : ℕ) (f : ℕ → ℕ) (grid : GridCells) → kinds ≡ line_by n f
    → IsTable count (λ a b. a == b || kinds_near (length kinds) limit (slice_index kinds) a b) grid
    → IsTable count (λ a b. a == b || kinds_near n limit f a b) grid
table_of_kinds kinds n limit count f grid are table =
    let long : length kinds ≡ n = ap length are ∙ length-line_by n f in
    table_alike count (λ a b. a == b || kinds_near (length kinds) limit (slice_index kinds) a b) (λ a b. a == b || kinds_near n limit f a b) grid
    (λ a b ha hb. ap (λ t. a == b || t) (ap (λ m. kinds_near m limit (slice_index kinds) a b) long ∙ kinds_alike n limit a b (slice_index kinds) f (kind_at kinds n f are))) table

-- what a walk over the listed kinds found
pub found_table : {E : Type 0} (r : Result GridCells E) (kinds : List ℕ) (n limit found count : ℕ) (f : ℕ → ℕ) → kinds ≡ line_by n f → found ≡ count
    → IfOk r (λ g. IsTable found (λ a b. a == b || kinds_near (length kinds) limit (slice_index kinds) a b) g)
    → IfOk r (λ g. IsTable count (λ a b. a == b || kinds_near n limit f a b) g)
found_table r kinds n limit found count f are is given =
    IfOk-weaker r (λ g. IsTable found (λ a b. a == b || kinds_near (length kinds) limit (slice_index kinds) a b) g) (λ g. IsTable count (λ a b. a == b || kinds_near n limit f a b) g)
    (λ g table. table_of_kinds kinds n limit count f g are (subst (λ (m : ℕ). IsTable m (λ a b. a == b || kinds_near (length kinds) limit (slice_index kinds) a b) g) is table)) given
