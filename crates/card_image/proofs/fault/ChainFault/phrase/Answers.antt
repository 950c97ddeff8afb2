use Rattle.std.proofs.Common.{◌≡◌, refl, ℕ, ◌∷◌, [], codes}
use Rattle.std.specs.List.{concat}
use Rattle.mill_base.specs.Phrases.{number_text}
use Rattle.mill_base.specs.declared.phrase.Number.{Number}
use Rattle.mill_base.specs.declared.phrase.Number.TheVariants.{Whole}
use Rattle.card_image.specs.Texts.{chain_text}
use Rattle.card_image.specs.declared.fault.ChainFault.{ChainFault}
use Rattle.card_image.specs.declared.fault.ChainFault.TheVariants.{IdleHole, HoleCount}
use Rattle.card_image.proofs.fault.ChainFault.phrase.Goals as goal

idle_told : (fault : ChainFault) (card hook : ℕ) (a b : Number) → fault ≡ IdleHole card hook → a ≡ Whole card → b ≡ Whole hook
    → concat (codes "card " ∷ number_text a ∷ codes " has a hole at hook " ∷ number_text b ∷ [] ∷ []) ≡ chain_text fault
idle_told fault card hook a b e p q = rw (e, p, q) refl

count_told : (fault : ChainFault) (kept found : ℕ) (a b : Number) → fault ≡ HoleCount kept found → a ≡ Whole found → b ≡ Whole kept
    → concat ([] ∷ number_text a ∷ codes " holes, not " ∷ number_text b ∷ [] ∷ []) ≡ chain_text fault
count_told fault kept found a b e p q = rw (e, p, q) refl

pub returns-in-IdleHole : goal.returns-in-IdleHole
returns-in-IdleHole c = idle_told _ _ _ _ _ c.in-IdleHole.is c.whole-in-IdleHole.ensures c.whole-in-IdleHole-2.ensures

pub returns-in-HoleCount : goal.returns-in-HoleCount
returns-in-HoleCount c = count_told _ _ _ _ _ c.in-HoleCount.is c.whole-in-HoleCount.ensures c.whole-in-HoleCount-2.ensures
