-- Rows of hooks that are read from a card word by word.
use Rattle.std.proofs.Common.{◌≡◌, ◌≢◌, ⊎_elim, ◌+◌, ◌-◌, ◌*◌, ◌/◌, ◌%◌, ◌<◌, ◌==◌, ℕ, Bool, false, List, length, get_or, ap, ◌∙◌, arith}
use Rattle.std.proofs.lemmas.Bool.{cases_eq}
use Rattle.std.specs.Int.{bit_at}

-- the first hooks of a row are the holes of the card
abbrev pub AreRead : List Bool → List ℕ → ℕ → Type 0
AreRead row card n = (k : ℕ) → k < n → k < length row → get_or row k false ≡ (bit_at (get_or card (k / 8) 0) (7 - k % 8) == 1)

pub read_more : (old new : List Bool) (card : List ℕ) (index word : ℕ) → length new ≡ length old
    → ((k : ℕ) → k < length old → k / 64 ≡ index → get_or new k false ≡ (bit_at word (k % 64) == 1))
    → ((k : ℕ) → k / 64 ≢ index → get_or new k false ≡ get_or old k false)
    → ((i : ℕ) → i < 64 → bit_at word i ≡ bit_at (get_or card (8 * index + i / 8) 0) (7 - i % 8))
    → AreRead old card (64 * index) → AreRead new card (64 * (index + 1))
read_more old new card index word long here others bits before k low within = ⊎_elim
    (λ (at : k / 64 ≡ index).
    here k (omega (arith, within, long)) at ∙ ap (λ b. b == 1) (bits (k % 64) (omega arith))
    ∙ ap (λ n. bit_at (get_or card n 0) (7 - k % 64 % 8) == 1) (let e : 8 * index + k % 64 / 8 ≡ k / 8 = omega (arith, at) in e)
    ∙ ap (λ n. bit_at (get_or card (k / 8) 0) (7 - n) == 1) (let e : k % 64 % 8 ≡ k % 8 = omega arith in e))
    (λ (away : k / 64 ≢ index). others k away ∙ before k (omega (arith, low, away)) (omega (arith, within, long)))
    (cases_eq (k / 64) index)
