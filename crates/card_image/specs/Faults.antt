-- The first fault of a chain, by the byte that shows it.
use Rattle.std.specs.Prelude.{ℕ, suc, ◌+◌, ◌-◌, ◌*◌, ◌==◌, nat_le, nat_lt, Bool, true, false, not, ◌&&◌, ◌||◌, List, [], ◌∷◌, length, take, Option, None, Some, if◌then◌else◌}
use Rattle.mill_base.specs.Below.{any_below, count_below}
use Rattle.mill_base.specs.declared.face.Face.TheVariants.{Up, Down}
use Rattle.std.specs.Option.{option_or}
use Rattle.card_image.specs.Sets.{CardDesign, hangs}
use Rattle.card_image.specs.Firsts.{first_of, passing}
use Rattle.card_image.specs.Places.{magic, hole_bytes, card_place, chain_length, number_at, hole_at}
use Rattle.card_image.specs.declared.fault.ChainFault.{ChainFault}
use Rattle.card_image.specs.declared.fault.ChainFault.TheVariants.{BadMagic, BadHeader, CardNumber, PadBit, IdleHole, HoleCount, Excess, Truncated}

-- the first list is the second, or how it begins
abbrev pub begins : List ℕ → List ℕ → Bool
begins [] whole = true
begins (x ∷ xs) [] = false
begins (x ∷ xs) (y ∷ ys) = (x == y) && begins xs ys

-- what is told as soon as the first `end` bytes are there
abbrev pub once : List ℕ → ℕ → Option ChainFault → Option ChainFault
once bytes end fault = if nat_le end (length bytes) then fault else None

-- the bytes so far are the beginning of neither magic
abbrev pub magic_fault : List ℕ → Option ChainFault
magic_fault first = if begins first (magic Up) || begins first (magic Down) then None else Some BadMagic

abbrev pub header_fault : ℕ → ℕ → ℕ → Option ChainFault
header_fault field kept found = if found == kept then None else Some (BadHeader field kept found)

abbrev pub number_fault : ℕ → ℕ → Option ChainFault
number_fault pick found = if found == pick then None else Some (CardNumber pick found)

-- a bit behind the last hook is set
abbrev pub has_pad : ℕ → (ℕ → Bool) → Bool
has_pad hooks hole = any_below (λ k. hole (hooks + k)) (8 * hole_bytes hooks - hooks)

-- the least hook without a column that has a hole
abbrev pub first_idle : ℕ → List ℕ → (ℕ → Bool) → Option ℕ
first_idle hooks columns hole = first_of (passing (λ h. hole h && not (hangs columns h))) hooks

abbrev pub count_fault : ℕ → ℕ → Option ChainFault
count_fault kept found = if found == kept then None else Some (HoleCount kept found)

abbrev pub idle_fault : ℕ → Option ℕ → Option ChainFault
idle_fault pick None = None
idle_fault pick (Some hook) = Some (IdleHole pick hook)

-- the faults of a whole card, in their order: pad bits, holes without a column, the count that is written
unfoldable pub holes_fault : ℕ → List ℕ → ℕ → ℕ → (ℕ → Bool) → Option ChainFault
holes_fault hooks columns pick written hole = if has_pad hooks hole then Some (PadBit pick)
    else option_or (idle_fault pick (first_idle hooks columns hole)) (count_fault written (count_below hole hooks))

-- the faults of the card of a pick: of its number once its number is there, of its holes once it is there whole
unfoldable pub card_fault : ℕ → List ℕ → List ℕ → ℕ → Option ChainFault
card_fault hooks columns bytes pick = option_or
    (once bytes (card_place hooks pick + 4) (number_fault pick (number_at bytes (card_place hooks pick))))
    (once bytes (card_place hooks (suc pick))
    (holes_fault hooks columns pick (number_at bytes (card_place hooks pick + 4))
    (hole_at bytes (card_place hooks pick + 8))))

-- the faults before the first card
unfoldable pub head_fault : ℕ → ℕ → List ℕ → Option ChainFault
head_fault hooks picks bytes = option_or (magic_fault (take 4 bytes))
    (option_or (once bytes 8 (header_fault 0 hooks (number_at bytes 4)))
    (once bytes 12 (header_fault 1 picks (number_at bytes 8))))

-- a byte past the whole length
abbrev pub excess_fault : CardDesign → List ℕ → Option ChainFault
excess_fault d bytes = once bytes (chain_length d + 1) (Some (Excess (chain_length d)))

-- the first fault that the bytes so far show: the parts follow in the order of the bytes that show them
unfoldable pub chain_fault : CardDesign → List ℕ → Option ChainFault
chain_fault d bytes = option_or (head_fault d.hooks d.picks bytes)
    (option_or (first_of (card_fault d.hooks d.columns bytes) d.picks) (excess_fault d bytes))

-- the fault of a chain that has ended: the first one, or else that it is too short
unfoldable pub end_fault : CardDesign → List ℕ → Option ChainFault
end_fault d bytes = option_or (chain_fault d bytes)
    (if nat_lt (length bytes) (chain_length d) then Some (Truncated (chain_length d) (length bytes)) else None)
