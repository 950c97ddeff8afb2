use Rattle.std.proofs.Common.{◌≡◌, refl, ℕ, ◌∷◌, [], codes}
use Rattle.std.specs.List.{concat}
use Rattle.mill_base.specs.Phrases.{number_text}
use Rattle.mill_base.specs.declared.phrase.Number.{Number}
use Rattle.mill_base.specs.declared.phrase.Number.TheVariants.{Whole}
use Rattle.tiff_palette.specs.Texts.{tiff_text}
use Rattle.tiff_palette.specs.declared.fault.TiffFault.{TiffFault}
use Rattle.tiff_palette.specs.declared.fault.TiffFault.TheVariants.{StripCount}
use Rattle.tiff_palette.proofs.fault.TiffFault.phrase.Goals as goal

strips_told : (fault : TiffFault) (tag kept found : ℕ) (a b c : Number) → fault ≡ StripCount tag kept found → a ≡ Whole tag → b ≡ Whole found → c ≡ Whole kept
    → concat (codes "field " ∷ number_text a ∷ codes " has " ∷ number_text b ∷ codes " strips, not " ∷ number_text c ∷ []) ≡ tiff_text fault
strips_told fault tag kept found a b c e p q r = rw (e, p, q, r) refl

pub returns-in-StripCount : goal.returns-in-StripCount
returns-in-StripCount c = strips_told _ _ _ _ _ _ _ c.in-StripCount.is c.whole-in-StripCount.ensures c.whole-in-StripCount-2.ensures c.whole-in-StripCount-3.ensures
