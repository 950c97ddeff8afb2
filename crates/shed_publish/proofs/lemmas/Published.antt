-- Published lists by their places.
use Rattle.std.proofs.Common.{MatchOption, ◌≡◌, ℕ, ◌+◌, List, [], ◌∷◌, ◌++◌, length, refl, sym, ap, subst, ◌∙◌, Some, suc, zero, slice_get, arith}
use Rattle.std.proofs.lemmas.List.{length-append}
use Rattle.std.proofs.lemmas.Option.{none-some, same_Some}
use Rattle.card_image.specs.Sets.{CardDesign}
use Rattle.shed_publish.specs.declared.newest.Version.{Version}
use Rattle.shed_publish.specs.Ends.{EndsWith}
use Rattle.shed_publish.specs.Versions.{IsPrefix, IsRun, IsPublished}

run_at : (design : CardDesign) (n : ℕ) (list : List Version) (k : ℕ) (v : Version) → IsRun design n list → slice_get list k ≡ Some v
    → (v.version ≡ n + k) × (v.cards.design ≡ design)
run_at design n [] k v h at = absurd (none-some v at)
run_at design n (u ∷ us) zero v h at =
    let same : u ≡ v = same_Some u v at in
    (subst (λ (w : Version). w.version ≡ n + 0) same (h.0 ∙ omega arith), subst (λ (w : Version). w.cards.design ≡ design) same h.1)
run_at design n (u ∷ us) (suc k) v h at =
    let later = run_at design (n + 1) us k v h.2 at in
    (later.0 ∙ omega arith, later.1)

-- entry k of a published list has version k
pub numbered : (list : List Version) (k : ℕ) (v : Version) → IsPublished list → slice_get list k ≡ Some v → v.version ≡ k
numbered [] k v h at = absurd (none-some v at)
numbered (u ∷ us) k v h at = (run_at u.cards.design 0 (u ∷ us) k v (h.0, refl, h.1) at).0 ∙ omega arith

-- any two entries of a published list have cards of one design
pub alike : (list : List Version) (j k : ℕ) (u v : Version) → IsPublished list → slice_get list j ≡ Some u → slice_get list k ≡ Some v
    → u.cards.design ≡ v.cards.design
alike [] j k u v h one other = absurd (none-some u one)
alike (w ∷ ws) j k u v h one other =
    let at = run_at w.cards.design 0 (w ∷ ws) in
    (at j u (h.0, refl, h.1) one).1 ∙ sym (at k v (h.0, refl, h.1) other).1

run_front : (design : CardDesign) (n : ℕ) (shorter rest : List Version) → IsRun design n (shorter ++ rest) → IsRun design n shorter
run_front design n [] rest h = tt
run_front design n (v ∷ vs) rest h = (h.0, h.1, run_front design (n + 1) vs rest h.2)

front : (shorter rest : List Version) → IsPublished (shorter ++ rest) → IsPublished shorter
front [] rest h = tt
front (v ∷ vs) rest h = (h.0, run_front v.cards.design 1 vs rest h.1)

-- what a published list begins with is published
pub prefix_published : (shorter longer : List Version) → IsPublished longer → IsPrefix shorter longer → IsPublished shorter
prefix_published shorter longer h p = front shorter p.0 (subst IsPublished p.1 h)

run_next : (design : CardDesign) (n : ℕ) (list : List Version) (next : Version) → IsRun design n list → next.version ≡ n + length list
    → next.cards.design ≡ design → IsRun design n (list ++ next ∷ [])
run_next design n [] next h number alike = (number ∙ omega arith, alike, tt)
run_next design n (v ∷ vs) next h number alike = (h.0, h.1, run_next design (n + 1) vs next h.2 (number ∙ omega arith) alike)

-- an entry with the next number and cards of the design of entry 0 goes on
pub next_published : (list : List Version) (first next : Version) → IsPublished list → slice_get list 0 ≡ Some first → next.version ≡ length list
    → next.cards.design ≡ first.cards.design → IsPublished (list ++ next ∷ [])
next_published [] first next h at number alike = absurd (none-some first at)
next_published (v ∷ vs) first next h at number alike =
    let same : v ≡ first = same_Some v first at in
    (h.0, run_next v.cards.design 1 vs next h.1 (number ∙ omega arith) (subst (λ (w : Version). next.cards.design ≡ w.cards.design) (sym same) alike))

-- the same where the design of entry 0 is known
pub next_alike : (design : CardDesign) (list : List Version) (next : Version) → IsPublished list → MatchOption (slice_get list 0) ⊥ (λ (v : Version). v.cards.design ≡ design)
    → next.version ≡ length list → next.cards.design ≡ design → IsPublished (list ++ next ∷ [])
next_alike design [] next h first number alike = absurd first
next_alike design (v ∷ vs) next h first number alike = next_published (v ∷ vs) v next h refl number (alike ∙ sym first)

at_end : (before : List Version) (v : Version) → slice_get (before ++ v ∷ []) (length before) ≡ Some v
at_end [] v = refl
at_end (u ∷ us) v = at_end us v

-- the last entry has the last version
pub last_version_is : (list : List Version) (v : Version) → IsPublished list → EndsWith list v → v.version + 1 ≡ length list
last_version_is list v h ends =
    let number = numbered (ends.0 ++ v ∷ []) (length ends.0) v (subst IsPublished ends.1 h) (at_end ends.0 v) in
    let len = length-append ends.0 (v ∷ []) in
    subst (λ (l : List Version). v.version + 1 ≡ length l) (sym ends.1) (omega (arith, number, len))

-- and stands in the list at the place of that number
pub last_entry_is : (list : List Version) (v : Version) → IsPublished list → EndsWith list v → slice_get list v.version ≡ Some v
last_entry_is list v h ends =
    let at = at_end ends.0 v in
    let number = numbered (ends.0 ++ v ∷ []) (length ends.0) v (subst IsPublished ends.1 h) at in
    subst (λ (l : List Version). slice_get l v.version ≡ Some v) (sym ends.1) (ap (slice_get (ends.0 ++ v ∷ [])) number ∙ at)
