-- The grammar of a chain, by places.
use Rattle.std.specs.Prelude.{◌≡◌, ◌<◌, ℕ, ◌+◌, true, List, [], Bool, length, slice_index, slice_index_or}
use Rattle.mill_base.specs.declared.face.Face.{Face}
use Rattle.mill_base.specs.Below.{count_below}
use Rattle.mill_base.specs.Bits.{packed}
use Rattle.byteorder.specs.Endian.{big_bytes}
use Rattle.card_image.specs.Sets.{CardDesign, CardsValue, hangs, hole_of}
use Rattle.card_image.specs.Places.{magic, card_place, chain_length}

-- the part stands in the bytes from a place on
abbrev pub StandsAt : List ℕ → ℕ → List ℕ → Type 0
StandsAt bytes place part = (i : ℕ) → i < length part → slice_index bytes (place + i) ≡ slice_index part i

abbrev pub hole_count : List Bool → ℕ
hole_count card = count_below (hole_of card) (length card)

-- the card has a place for each hook, and holes at the hooks of columns alone
pub record IsCard (d : CardDesign) (card : List Bool) : Type 0 where
  pub width : length card ≡ d.hooks
  pub idle : (hook : ℕ) → hole_of card hook ≡ true → hangs d.columns hook ≡ true

-- there is a card for each pick
pub record IsCardSet (set : CardsValue) : Type 0 where
  pub count : length set.holes ≡ set.design.picks
  pub each : (pick : ℕ) → pick < set.design.picks → IsCard set.design (slice_index_or set.holes pick [])

-- from a place on stand the number, the count of holes and the packed holes of a card
pub record CardStandsAt (bytes : List ℕ) (place pick : ℕ) (card : List Bool) : Type 0 where
  pub number : StandsAt bytes place (big_bytes 4 pick)
  pub count : StandsAt bytes (place + 4) (big_bytes 4 (hole_count card))
  pub holes : StandsAt bytes (place + 8) (packed card)

-- the bytes are the chain of these cards for a cloth of this face
pub record Chain (d : CardDesign) (bytes : List ℕ) (face : Face) (cards : List (List Bool)) : Type 0 where
  pub long : length bytes ≡ chain_length d
  pub magic_bytes : StandsAt bytes 0 (magic face)
  pub hooks : StandsAt bytes 4 (big_bytes 4 d.hooks)
  pub picks : StandsAt bytes 8 (big_bytes 4 d.picks)
  pub count : length cards ≡ d.picks
  pub each : (pick : ℕ) → pick < d.picks → IsCard d (slice_index_or cards pick [])
  pub stand : (pick : ℕ) → pick < d.picks
      → CardStandsAt bytes (card_place d.hooks pick) pick (slice_index_or cards pick [])
