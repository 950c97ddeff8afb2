-- Papers as published versions.
use Rattle.std.proofs.Common.{◌≡◌, ◌+◌, ◌<◌, ℕ, zero, suc, Some, List, [], ◌∷◌, ◌++◌, length, refl, sym, ap, ◌∙◌, arith}
use Rattle.std.specs.Prelude.{slice_get}
use Rattle.std.proofs.lemmas.Option.{none-some, same_Some}
use Rattle.point_paper.specs.Papers.{PaperCells}
use Rattle.draft_model.specs.declared.design.Design.{Design}
use Rattle.card_image.specs.Sets.{CardsValue, cards_of}
use Rattle.shed_publish.specs.declared.newest.Version.{Version}
use Rattle.shift_run.specs.Desks.{numbered}

pub numbered_length : (design : Design) (n : ℕ) (papers : List PaperCells) → length (numbered design n papers) ≡ length papers
numbered_length design n [] = refl
numbered_length design n (p ∷ papers) = ap suc (numbered_length design (n + 1) papers)

pub numbered_append : (design : Design) (n : ℕ) (papers more : List PaperCells) → numbered design n (papers ++ more) ≡ numbered design n papers ++ numbered design (n + length papers) more
numbered_append design n [] more = ap (λ m. numbered design m more) (let e : n ≡ n + 0 = omega arith in e)
numbered_append design n (p ∷ papers) more =
    ap (λ l. record { version = n; cards = cards_of design p } ∷ l) (numbered_append design (n + 1) papers more
    ∙ ap (λ m. numbered design (n + 1) papers ++ numbered design m more) (let e : n + 1 + length papers ≡ n + suc (length papers) = omega arith in e))

-- the version of a paper
pub version_shown : (design : Design) (n : ℕ) (papers : List PaperCells) (k : ℕ) (paper : PaperCells) → slice_get papers k ≡ Some paper
    → slice_get (numbered design n papers) k ≡ Some (record { version = n + k; cards = cards_of design paper })
version_shown design n [] k paper h = absurd (none-some paper h)
version_shown design n (p ∷ papers) zero paper h =
    ap (λ (q : PaperCells). Some (record { version = n; cards = cards_of design q })) (same_Some p paper h)
    ∙ ap (λ m. Some (record { version = m; cards = cards_of design paper })) (let e : n ≡ n + 0 = omega arith in e)
version_shown design n (p ∷ papers) (suc k) paper h =
    version_shown design (n + 1) papers k paper h ∙ ap (λ m. Some (record { version = m; cards = cards_of design paper })) (let e : n + 1 + k ≡ n + suc k = omega arith in e)

-- the paper of a version
pub paper_of : (design : Design) (n : ℕ) (papers : List PaperCells) (k : ℕ) (v : Version) → slice_get (numbered design n papers) k ≡ Some v
    → (paper : PaperCells) × (slice_get papers k ≡ Some paper) × (v.cards ≡ cards_of design paper)
paper_of design n [] k v h = absurd (none-some v h)
paper_of design n (p ∷ papers) zero v h = (p, refl, ap (λ (w : Version). w.cards) (sym (same_Some _ v h)))
paper_of design n (p ∷ papers) (suc k) v h = paper_of design (n + 1) papers k v h
