-- The text of a chain fault. The words are this project's own.
use Rattle.std.specs.Prelude.{ℕ, codes, decimal, List, [], ◌∷◌, ◌==◌, if◌then◌else◌}
use Rattle.std.specs.List.{concat}
use Rattle.card_image.specs.declared.fault.ChainFault.{ChainFault}
use Rattle.card_image.specs.declared.fault.ChainFault.TheVariants.{BadMagic, BadHeader, CardNumber, PadBit, IdleHole, HoleCount, Excess, Truncated}

abbrev pub chain_text : ChainFault → List ℕ
chain_text BadMagic = concat (codes "bad magic" ∷ [])
chain_text (BadHeader field kept found) =
    concat ((if field == 0 then codes "hooks " else codes "picks ")
    ∷ decimal found ∷ codes ", not " ∷ decimal kept ∷ [])
chain_text (CardNumber kept found) = concat (codes "card " ∷ decimal found ∷ codes ", not " ∷ decimal kept ∷ [])
chain_text (PadBit card) = concat (codes "pad bit in card " ∷ decimal card ∷ [])
chain_text (IdleHole card hook) =
    concat (codes "card " ∷ decimal card ∷ codes " has a hole at hook " ∷ decimal hook ∷ [])
chain_text (HoleCount kept found) = concat (decimal found ∷ codes " holes, not " ∷ decimal kept ∷ [])
chain_text (Excess kept) = concat (codes "longer than " ∷ decimal kept ∷ [])
chain_text (Truncated kept found) = concat (codes "ends at " ∷ decimal found ∷ codes " of " ∷ decimal kept ∷ [])
