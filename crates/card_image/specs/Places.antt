-- Where the parts of a chain stand. Places are bytes, counted from 0. The format is this project's own.
use Rattle.std.specs.Prelude.{ℕ, ◌+◌, ◌-◌, ◌*◌, ◌/◌, ◌%◌, ◌==◌, Bool, List, [], ◌∷◌, drop, slice_index}
use Rattle.std.specs.Int.{bit_at}
use Rattle.byteorder.specs.Endian.{big_number}
use Rattle.mill_base.specs.declared.face.Face.{Face}
use Rattle.mill_base.specs.declared.face.Face.TheVariants.{Up, Down}
use Rattle.card_image.specs.Sets.{CardDesign}

-- the first four bytes: JCC1 for a cloth with its face up, JCC2 for one with its face down
abbrev pub magic : Face → List ℕ
magic Up = 74 ∷ 67 ∷ 67 ∷ 49 ∷ []
magic Down = 74 ∷ 67 ∷ 67 ∷ 50 ∷ []

-- how many bytes the holes of a card take, eight hooks to a byte
abbrev pub hole_bytes : ℕ → ℕ
hole_bytes hooks = (hooks + 7) / 8

-- where the card of a pick begins: behind the magic, the hooks and the picks come the cards, each with its number and
-- its count of holes, of four bytes each, and its bytes of holes
unfoldable pub card_place : ℕ → ℕ → ℕ
card_place hooks pick = 12 + pick * (8 + hole_bytes hooks)

abbrev pub chain_length : CardDesign → ℕ
chain_length d = card_place d.hooks d.picks

-- the number in the four bytes from a place on, the highest byte first
abbrev pub number_at : List ℕ → ℕ → ℕ
number_at bytes place = big_number 4 (drop place bytes)

-- the bit of a hook, in bytes of holes that begin at a place: hook h stands in bit 7 - h mod 8 of byte h div 8
abbrev pub hole_at : List ℕ → ℕ → ℕ → Bool
hole_at bytes place hook = bit_at (slice_index bytes (place + hook / 8)) (7 - hook % 8) == 1
