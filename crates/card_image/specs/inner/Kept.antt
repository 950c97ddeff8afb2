-- The cards that bytes hold, by the bits that stand in them, and the bytes that are written for cards.
use Rattle.std.specs.Prelude.{ℕ, ◌+◌, ◌++◌, ◌==◌, List, Bool, slice_index, if◌then◌else◌}
use Rattle.mill_base.specs.Bits.{packed}
use Rattle.mill_base.specs.Lines.{line_by}
use Rattle.mill_base.specs.declared.face.Face.{Face}
use Rattle.mill_base.specs.declared.face.Face.TheVariants.{Up, Down}
use Rattle.byteorder.specs.Endian.{big_bytes}
use Rattle.card_image.specs.Sets.{CardDesign}
use Rattle.card_image.specs.Places.{magic, card_place, hole_at}
use Rattle.card_image.specs.Chains.{hole_count}

-- the face by the magic's last byte
abbrev pub face_of : List ℕ → Face
face_of bytes = if slice_index bytes 3 == 50 then Down else Up

-- the holes of the card of a pick
unfoldable pub card_of : ℕ → List ℕ → ℕ → List Bool
card_of hooks bytes pick = line_by hooks (hole_at bytes (card_place hooks pick + 8))

unfoldable pub holes_in : CardDesign → List ℕ → List (List Bool)
holes_in d bytes = line_by d.picks (card_of d.hooks bytes)

-- the bytes before the first card
abbrev pub head_bytes : ℕ → ℕ → Face → List ℕ
head_bytes hooks picks face = magic face ++ big_bytes 4 hooks ++ big_bytes 4 picks

-- the bytes of a card
abbrev pub card_bytes : ℕ → List Bool → List ℕ
card_bytes pick card = big_bytes 4 pick ++ big_bytes 4 (hole_count card) ++ packed card
