-- The steps that keep the rule of the published list.
use Rattle.std.proofs.Common.{arith, ◌<◌, ◌≡◌, ℕ, ◌≢◌, length, List, [], ◌∷◌, ◌++◌, set, fold, take, refl, sym, ap, subst, ◌∙◌, Result, Ok, Err, MatchResult, ⊎_elim, append-nil}
use Rattle.shed_publish.specs.declared.board.Put.{Put}
use mathlib.Core.Option.{some, some-ne-none}
use lib.ListN.{get_elem?}
use Rattle.left_right.specs.Register.{Admits, TurnsAt, Forks, Merges}
use Rattle.atomic_table.proofs.Lists.{at_set, at_snoc}
use Rattle.shed_publish.specs.declared.newest.Version.{Version}
use Rattle.shed_publish.specs.declared.board.Board.{Board}
use Rattle.shed_publish.specs.declared.board.View.{View}
use Rattle.shed_publish.specs.Versions.{version_of, IsPrefix, IsPublished}
use Rattle.shed_publish.proofs.lemmas.Prefixes.{prefix_trans, prefix_refl, prefix_nil, all_trans}
use Rattle.std.proofs.Math.Seq.{take-append_seam, take-length}
use Rattle.std.proofs.lemmas.List.{length-append}
use Rattle.std.proofs.lemmas.List.Sums.{fold-append}
use Rattle.shed_publish.specs.inner.Writers.{AllAt}
use Rattle.shed_publish.specs.inner.Rule.{entries_of, newcomer, Fits, Keeps, Sees, informed, put_at}

fits_later : (b c : List Version) (v : View) → Fits b v → IsPrefix b c → Fits c v
fits_later b c v h q = (prefix_trans v.seen b c h.0 q, all_trans v.learnt b c h.1 q)

fits_newcomer : (b : List Version) → Fits b newcomer
fits_newcomer b = (prefix_nil b, tt)

-- the rule at a list of views of which one is new
set_fits : (b : List Version) (views : List View) (seat : ℕ) (w : View)
    → ((j : ℕ) (u : View) → get_elem? views j ≡ some u → Fits b u) → Fits b w
    → (j : ℕ) (u : View) → get_elem? (set views seat w) j ≡ some u → Fits b u
set_fits b views seat w h fit j u e =
    ⊎_elim (λ (t : (j ≡ seat) × (w ≡ u)). subst (λ (z : View). Fits b z) t.1 fit)
    (λ (t : (j ≢ seat) × (get_elem? views j ≡ some u)). h j u t.1) (at_set views seat j w u e)

snoc_fits : (b : List Version) (views : List View) (w : View)
    → ((j : ℕ) (u : View) → get_elem? views j ≡ some u → Fits b u) → Fits b w
    → (j : ℕ) (u : View) → get_elem? (views ++ w ∷ []) j ≡ some u → Fits b u
snoc_fits b views w h fit j u e = ⊎_elim (h j u) (λ (same : w ≡ u). subst (λ (z : View). Fits b z) same fit) (at_snoc views w u j e)

pub opens : (x : Board) → IsPublished (entries_of x) → Keeps x (newcomer ∷ [])
opens x published = (published, snoc_fits (entries_of x) [] newcomer (λ j u e. absurd (nothing_at j u e)) (fits_newcomer (entries_of x))) where
  nothing_at : (j : ℕ) (u : View) → get_elem? {A = View} [] j ≡ some u → ⊥
  nothing_at j u e = some-ne-none u (sym e)

pub admits : Admits Keeps newcomer
admits x views h = (h.0, snoc_fits (entries_of x) views newcomer h.1 (fits_newcomer (entries_of x)))

pub publishes : (seat : ℕ) (v : View) (x y : Board) → IsPublished (entries_of y) → IsPrefix (entries_of x) (entries_of y) → TurnsAt Keeps seat v x y Sees
publishes seat v x y published longer views h at =
    let old = fits_later (entries_of x) (entries_of y) v (h.1 seat v at) longer in
    let now : View = record { seen = entries_of y; learnt = [] } in (
      now,
      (published, set_fits (entries_of y) views seat now (λ j u e. fits_later (entries_of x) (entries_of y) u (h.1 j u e) longer) (prefix_refl (entries_of y), tt)),
      record { list = refl; learnt = refl; published = published; later = old.0; told = old.1 },
    )

-- a reader that enters
pub enters : (seat : ℕ) (v : View) (x : Board) → TurnsAt Keeps seat v x x Sees
enters seat v x views h at = publishes seat v x x h.0 (prefix_refl (entries_of x)) views h at

pub forks : (seat : ℕ) (v : View) → Forks Keeps seat v v v
forks seat v x views h at =
    (h.0, snoc_fits (entries_of x) (set views seat v) v (set_fits (entries_of x) views seat v h.1 (h.1 seat v at)) (h.1 seat v at))

pub merges : (seat : ℕ) (v : View) (other : ℕ) (w : View) → Merges Keeps seat v other w (informed v w) newcomer
merges seat v other w x views h at apart there =
    let b = entries_of x in
    let mine = h.1 seat v at in
    let theirs : Fits b w = ⊎_elim (λ (t : (other ≡ seat) × (informed v w ≡ w)). absurd (apart t.0))
    (λ (t : (other ≢ seat) × (get_elem? views other ≡ some w)). h.1 other w t.1) (at_set views seat other (informed v w) w there) in
    let both : Fits b (informed v w) = (mine.0, (theirs.0, mine.1)) in
    (h.0, set_fits b (set views seat (informed v w)) other newcomer (set_fits b views seat (informed v w) h.1 both) (fits_newcomer b))

-- nothing is pending
pub shows_again : (seat : ℕ) (v : View) (x y : Board) (ops : List Put) → ops ≡ [] → entries_of y ≡ fold put_at (entries_of x) ops → IsPublished (entries_of x) → TurnsAt Keeps seat v x y Sees
shows_again seat v x y ops none is published =
    let same : entries_of y ≡ entries_of x = is ∙ ap (λ o. fold put_at (entries_of x) o) none in
    publishes seat v x y (subst IsPublished (sym same) published) ([], same ∙ sym (append-nil (entries_of x)))

-- what is put at the end of a list again and again leaves the list
fold_at : (xs ys : List Version) (ops : List Put) → take (length xs) ys ≡ xs → AllAt (length xs) ops → take (length xs) (fold put_at ys ops) ≡ xs
fold_at xs ys [] h all = h
fold_at xs ys (p ∷ ps) h all =
    let front : take p.at ys ≡ xs = ap (λ n. take n ys) all.0 ∙ h in
    fold_at xs (put_at ys p) ps
    (ap (λ l. take (length xs) (l ++ version_of p.entry ∷ [])) front ∙ take-append_seam xs (version_of p.entry ∷ []))
    all.1

-- the last of these operations decides
pub put_last : (xs : List Version) (ops : List Put) (p : Put) → AllAt (length xs) ops → p.at ≡ length xs → fold put_at xs (ops ++ p ∷ []) ≡ xs ++ version_of p.entry ∷ []
put_last xs ops p all at =
    fold-append put_at xs ops (p ∷ [])
    ∙ ap (λ l. l ++ version_of p.entry ∷ []) (ap (λ n. take n (fold put_at xs ops)) at ∙ fold_at xs xs ops (take-length xs) all)

pub all_snoc : (n : ℕ) (ops : List Put) (p : Put) → AllAt n ops → p.at ≡ n → AllAt n (ops ++ p ∷ [])
all_snoc n [] p all at = (at, tt)
all_snoc n (q ∷ qs) p all at = (all.0, all_snoc n qs p all.1 at)

pub shows_next : (seat : ℕ) (v : View) (x y : Board) (ops all : List Put) (p : Put) → all ≡ ops ++ p ∷ [] → AllAt (length (entries_of x)) ops → p.at ≡ length (entries_of x)
    → IsPublished (entries_of x ++ version_of p.entry ∷ []) → entries_of y ≡ fold put_at (entries_of x) all → TurnsAt Keeps seat v x y Sees
shows_next seat v x y ops all p are at_end at published is =
    let next : entries_of y ≡ entries_of x ++ version_of p.entry ∷ [] = is ∙ ap (λ o. fold put_at (entries_of x) o) are ∙ put_last (entries_of x) ops p at_end at in
    publishes seat v x y (subst IsPublished (sym next) published) (version_of p.entry ∷ [], next)

some_snoc : (xs : List Version) (v : Version) → 0 < length (xs ++ v ∷ [])
some_snoc xs v = let e = length-append xs (v ∷ []) in omega (arith, e)

-- what a publication leaves, whether it went through or not: the view, the list, and what is pending
module _ {E : Type 0} (v w : View) (x y : Board) (ops all rest : List Put) (p : Put)
    (are : all ≡ ops ++ p ∷ []) (at_end : AllAt (length (entries_of x)) ops) (at : p.at ≡ length (entries_of x))
    (published : IsPublished (entries_of x)) (some : 0 < length (entries_of x)) (seen : v.seen ≡ entries_of x) where
  pub after_list : (r : Result (Unit {0}) E)
      → MatchResult r (λ _. (entries_of y ≡ fold put_at (entries_of x) all) × (rest ≡ [])) (λ _. (y ≡ x) × (rest ≡ all))
      → MatchResult r (λ _. entries_of y ≡ entries_of x ++ version_of p.entry ∷ []) (λ _. entries_of y ≡ entries_of x)
  after_list (Ok u) h = h.0 ∙ ap (λ o. fold put_at (entries_of x) o) are ∙ put_last (entries_of x) ops p at_end at
  after_list (Err e) h = ap entries_of h.0

  pub after_writer : (r : Result (Unit {0}) E)
      → MatchResult r (λ _. (entries_of y ≡ fold put_at (entries_of x) all) × (rest ≡ [])) (λ _. (y ≡ x) × (rest ≡ all))
      → MatchResult r (λ _. Sees v x y w) (λ _. w ≡ v)
      → (w.seen ≡ entries_of y) × IsPublished (entries_of y) × (0 < length (entries_of y)) × AllAt (length (entries_of y)) rest
  after_writer (Ok u) h s = (
    s.list,
    subst IsPublished s.list s.published,
    subst (λ l. 0 < length l) (sym (after_list (Ok u) h)) (some_snoc (entries_of x) (version_of p.entry)),
    subst (λ o. AllAt (length (entries_of y)) o) (sym h.1) tt,
  )
  after_writer (Err e) h s = (
    ap (λ (z : View). z.seen) s ∙ seen ∙ sym (ap entries_of h.0),
    subst IsPublished (sym (ap entries_of h.0)) published,
    subst (λ (l : List Version). 0 < length l) (sym (ap entries_of h.0)) some,
    subst (λ (z : Board). AllAt (length (entries_of z)) rest) (sym h.0) (subst (λ o. AllAt (length (entries_of x)) o) (sym (h.1 ∙ are)) (all_snoc (length (entries_of x)) ops p at_end at)),
  )
