-- Published lists and the versions of a history.
use Rattle.std.proofs.Common.{◌≡◌, ◌+◌, ◌<◌, ℕ, zero, suc, List, [], ◌∷◌, ◌++◌, length, refl, sym, ap, ◌∙◌, Some, arith}
use Rattle.std.specs.Prelude.{slice_get}
use Rattle.std.proofs.lemmas.Option.{same_Some, slice_get_within}
use Rattle.point_paper.specs.Papers.{PaperCells}
use Rattle.draft_model.specs.declared.design.Design.{Design}
use Rattle.shed_publish.specs.declared.newest.Version.{Version}
use Rattle.card_image.specs.Sets.{cards_of}
use Rattle.shift_run.specs.Desks.{numbered}

pub numbered_length : (design : Design) (n : ℕ) (papers : List PaperCells) → length (numbered design n papers) ≡ length papers
numbered_length design n [] = refl
numbered_length design n (p ∷ papers) = ap suc (numbered_length design (n + 1) papers)

pub numbered_snoc : (design : Design) (n : ℕ) (papers : List PaperCells) (p : PaperCells)
    → numbered design n (papers ++ p ∷ []) ≡ numbered design n papers ++ record { version = n + length papers; cards = cards_of design p } ∷ []
numbered_snoc design n [] p = ap (λ k. record { version = k; cards = cards_of design p } ∷ []) (let e : n ≡ n + 0 = omega arith in e)
numbered_snoc design n (x ∷ papers) p =
    ap (λ l. record { version = n; cards = cards_of design x } ∷ l) (numbered_snoc design (n + 1) papers p
    ∙ ap (λ k. numbered design (n + 1) papers ++ record { version = k; cards = cards_of design p } ∷ []) (let e : n + 1 + length papers ≡ n + suc (length papers) = omega arith in e))

-- what a list of numbered papers has at a place
pub numbered_at : (design : Design) (n : ℕ) (papers : List PaperCells) (k : ℕ) (v : Version) → slice_get (numbered design n papers) k ≡ Some v
    → (paper : PaperCells) × (slice_get papers k ≡ Some paper) × (v ≡ record { version = n + k; cards = cards_of design paper })
numbered_at design n papers k v h = at n papers k (omega (arith, slice_get_within (numbered design n papers) k v h, numbered_length design n papers)) h where
  at : (n : ℕ) (papers : List PaperCells) (k : ℕ) → k < length papers → slice_get (numbered design n papers) k ≡ Some v
      → (paper : PaperCells) × (slice_get papers k ≡ Some paper) × (v ≡ record { version = n + k; cards = cards_of design paper })
  at n [] k below h = absurd (omega arith)
  at n (p ∷ papers) zero below h =
      let one : Version = record { version = n; cards = cards_of design p } in
      (p, refl, sym (same_Some one v h) ∙ ap (λ m. record { version = m; cards = cards_of design p }) (let e : n ≡ n + 0 = omega arith in e))
  at n (p ∷ papers) (suc k) below h =
      let later = at (n + 1) papers k (omega arith) h in
      (later.0, later.1, later.2 ∙ ap (λ m. record { version = m; cards = cards_of design later.0 }) (let e : n + 1 + k ≡ n + suc k = omega arith in e))
