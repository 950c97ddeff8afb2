-- A chain shows no fault, and is the only one of its cards.
use Rattle.std.proofs.Common.{◌≡◌, ⊎_elim, ℕ, zero, suc, ◌+◌, ◌-◌, ◌*◌, ◌/◌, ◌%◌, ◌^◌, ◌<◌, ◌≤◌, ◌==◌, ltb, Bool, true, false, cond, not, ◌&&◌, ◌||◌, List, [], ◌∷◌, length, length-drop, take, drop, get_or, Option, Some, None, sym, ap, refl, ◌∙◌, zero-add, arith}
use Rattle.std.proofs.lemmas.List.{get_or-drop, get_or-take, get_or_past, length-take-le, ext_get_or}
use Rattle.std.proofs.lemmas.Bool.{cases_lt, eq-eqb, le-ltb}
use Rattle.std.specs.Int.{bit_at}
use Rattle.byteorder.specs.Endian.{big_bytes}
use Rattle.mill_base.specs.Bits.{packed}
use Rattle.mill_base.specs.declared.face.Face.{Face}
use Rattle.mill_base.specs.declared.face.Face.TheVariants.{Up, Down}
use Rattle.mill_base.proofs.lemmas.Packs.{length-packed, get_or-packed, bit_of_packed}
use Rattle.card_image.specs.Sets.{CardDesign}
use Rattle.std.specs.Option.{option_or}
use Rattle.card_image.specs.Firsts.{first_of, passing}
use Rattle.mill_base.specs.Below.{count_below}
use Rattle.card_image.specs.Places.{magic, hole_bytes, card_place, chain_length, number_at, hole_at}
use Rattle.card_image.specs.Sets.{hangs}
use Rattle.card_image.specs.Faults.{begins, once, magic_fault, header_fault, number_fault, has_pad, first_idle, idle_fault, count_fault, holes_fault, card_fault, head_fault, excess_fault, chain_fault, end_fault}
use Rattle.card_image.specs.Chains.{StandsAt, hole_count, IsCard, CardStandsAt, Chain}
use Rattle.card_image.specs.Sets.{hole_of}
use Rattle.card_image.specs.declared.fault.ChainFault.{ChainFault}
use Rattle.card_image.specs.declared.fault.ChainFault.TheVariants.{BadMagic, BadHeader, CardNumber, PadBit, HoleCount, Excess, Truncated}
use Rattle.card_image.proofs.Firsts.{or_next, first_rest, or_true}
use Rattle.mill_base.proofs.lemmas.Belows.{any_none, count_alike, count_few}
use Rattle.card_image.proofs.Told.{once_yes, once_no}
use Rattle.card_image.proofs.Cards.{place_is, card_next, card_place_le, card_first}
use Rattle.card_image.proofs.Bits.{number_read}

-- where a packed card stands, the bits are its holes, and the pad bits are clear
pub stands_hole : (bytes : List ℕ) (at : ℕ) (card : List Bool) → StandsAt bytes at (packed card) → (h : ℕ) → h < 8 * hole_bytes (length card) → hole_at bytes at h ≡ hole_of card h
stands_hole bytes at card stands h low =
    let n = length-packed card in
    let j : h / 8 < (length card + 7) / 8 = omega (arith, low) in
    let e : 8 * (h / 8) + h % 8 ≡ h = omega arith in
    ap (λ (b : ℕ). bit_at b (7 - h % 8) == 1) (stands (h / 8) (omega (arith, n, j)) ∙ get_or-packed card (h / 8) 0 j)
    ∙ bit_of_packed card (h / 8) (h % 8) (omega arith) ∙ ap (λ (k : ℕ). get_or card k false) e

-- ---- a chain shows no fault

begins_all : (xs ys : List ℕ) → length xs ≤ length ys → ((i : ℕ) → i < length xs → get_or xs i 0 ≡ get_or ys i 0) → begins xs ys ≡ true
begins_all [] ys low each = refl
begins_all (x ∷ xs) [] low each = absurd (omega (arith, low))
begins_all (x ∷ xs) (y ∷ ys) low each =
    ap (λ b. b && begins xs ys) (eq-eqb x y (each 0 (omega arith))) ∙ begins_all xs ys (omega (arith, low)) (λ i h. each (suc i) (omega (arith, h)))

magic_begins : (bytes : List ℕ) (face : Face) → length (magic face) ≡ 4 → 4 ≤ length bytes → StandsAt bytes 0 (magic face) → begins (take 4 bytes) (magic face) ≡ true
magic_begins bytes face four long stands =
    let front = length-take-le 4 bytes long in
    begins_all (take 4 bytes) (magic face) (omega (arith, four, front))
    (λ i low. get_or-take 4 bytes i 0 (omega (arith, front, low)) ∙ ap (λ (k : ℕ). get_or bytes k 0) (sym (zero-add i)) ∙ stands i (omega (arith, four, front, low)))

magic_clean : (bytes : List ℕ) (face : Face) → 4 ≤ length bytes → StandsAt bytes 0 (magic face) → magic_fault (take 4 bytes) ≡ None
magic_clean bytes Up long stands =
    ap (λ b. cond (b || begins (take 4 bytes) (magic Down)) None (Some BadMagic)) (magic_begins bytes Up refl long stands)
magic_clean bytes Down long stands =
    ap (λ b. cond (begins (take 4 bytes) (magic Up) || b) None (Some BadMagic)) (magic_begins bytes Down refl long stands)
    ∙ ap (λ b. cond b None (Some BadMagic)) (or_true (begins (take 4 bytes) (magic Up)))

equal_none : {A : Type 0} (found kept : ℕ) (x : A) → found ≡ kept → cond (found == kept) None (Some x) ≡ None
equal_none found kept x is = ap (λ b. cond b None (Some x)) (eq-eqb found kept is)

once_none : (bytes : List ℕ) (end : ℕ) (f : Option ChainFault) → f ≡ None → once bytes end f ≡ None
once_none bytes end f none = ap (once bytes end) none ∙ both (ltb end (length bytes)) where
  both : (b : Bool) → once bytes end None ≡ None
  both b = ⊎_elim (λ (short : length bytes < end). once_no bytes end None short) (λ (long : end ≤ length bytes). once_yes bytes end None long) (cases_lt (length bytes) end)

card_clean : (d : CardDesign) (bytes : List ℕ) (pick : ℕ) (card : List Bool) → d.hooks < 2 ^ 32 → pick < 2 ^ 32 → IsCard d card → CardStandsAt bytes (card_place d.hooks pick) pick card
    → card_fault d.hooks d.columns bytes pick ≡ None
unfolding card_fault holes_fault
card_clean d bytes pick card few low is stands =
    let at = card_place d.hooks pick in
    let hole = hole_at bytes (at + 8) in
    let written = number_at bytes (at + 4) in
    let width = is.width in
    let bits : (h : ℕ) → h < 8 * hole_bytes d.hooks → hole h ≡ hole_of card h = λ h below. stands_hole bytes (at + 8) card stands.holes h (omega (arith, below, width)) in
    let pad : has_pad d.hooks hole ≡ false =
    any_none (λ k. hole (d.hooks + k)) (8 * hole_bytes d.hooks - d.hooks) (λ k h. bits (d.hooks + k) (omega (arith, h)) ∙ get_or_past card (d.hooks + k) false (omega (arith, width))) in
    let idle : first_idle d.hooks d.columns hole ≡ None =
    first_rest (passing (λ h. hole h && not (hangs d.columns h))) 0 d.hooks (omega arith)
    (λ h from below. unused (hole h) (hangs d.columns h) h (λ e. is.idle h (sym (bits h (omega (arith, below))) ∙ e))) in
    let counted : count_below hole d.hooks ≡ hole_count card = count_alike hole (hole_of card) d.hooks (λ h below. bits h (omega (arith, below))) ∙ ap (count_below (hole_of card)) (sym width) in
    let most = count_few (hole_of card) (length card) in
    let read : written ≡ hole_count card = number_read bytes (at + 4) (hole_count card) (omega (arith, most, width, few)) stands.count in
    let whole : holes_fault d.hooks d.columns pick written hole ≡ None =
    ap (λ b. cond b (Some (PadBit pick)) (option_or (idle_fault pick (first_idle d.hooks d.columns hole)) (count_fault written (count_below hole d.hooks)))) pad
    ∙ ap (λ o. option_or (idle_fault pick o) (count_fault written (count_below hole d.hooks))) idle
    ∙ equal_none (count_below hole d.hooks) written (HoleCount written (count_below hole d.hooks)) (counted ∙ sym read) in
    or_next (once bytes (at + 4) (number_fault pick (number_at bytes at))) (once bytes (card_place d.hooks (suc pick)) (holes_fault d.hooks d.columns pick written hole))
    (once_none bytes (at + 4) (number_fault pick (number_at bytes at)) (equal_none (number_at bytes at) pick (CardNumber pick (number_at bytes at)) (number_read bytes at pick low stands.number)))
    ∙ once_none bytes (card_place d.hooks (suc pick)) (holes_fault d.hooks d.columns pick written hole) whole where
      unused : (a b : Bool) (h : ℕ) → (a ≡ true → b ≡ true) → cond (a && not b) (Some h) None ≡ None
      unused true b h used = ap (λ c. cond (not c) (Some h) None) (used refl)
      unused false b h used = refl

pub chain_clean : (d : CardDesign) (bytes : List ℕ) (face : Face) (cards : List (List Bool)) → d.hooks < 2 ^ 32 → d.picks < 2 ^ 32 → Chain d bytes face cards → chain_fault d bytes ≡ None
unfolding chain_fault head_fault
chain_clean d bytes face cards few some chain =
    let first = card_first d.hooks in
    let far = card_place_le d.hooks 0 d.picks (omega arith) in
    let long = chain.long in
    let fields = option_or (once bytes 8 (header_fault 0 d.hooks (number_at bytes 4))) (once bytes 12 (header_fault 1 d.picks (number_at bytes 8))) in
    let all = first_of (card_fault d.hooks d.columns bytes) d.picks in
    let head : option_or (magic_fault (take 4 bytes)) fields ≡ None =
    or_next (magic_fault (take 4 bytes)) fields (magic_clean bytes face (omega (arith, long, first, far)) chain.magic_bytes)
    ∙ or_next (once bytes 8 (header_fault 0 d.hooks (number_at bytes 4))) (once bytes 12 (header_fault 1 d.picks (number_at bytes 8)))
    (once_none bytes 8 (header_fault 0 d.hooks (number_at bytes 4)) (equal_none (number_at bytes 4) d.hooks (BadHeader 0 d.hooks (number_at bytes 4)) (number_read bytes 4 d.hooks few chain.hooks)))
    ∙ once_none bytes 12 (header_fault 1 d.picks (number_at bytes 8)) (equal_none (number_at bytes 8) d.picks (BadHeader 1 d.picks (number_at bytes 8)) (number_read bytes 8 d.picks some chain.picks)) in
    let none : all ≡ None = first_rest (card_fault d.hooks d.columns bytes) 0 d.picks (omega arith)
    (λ k from below. card_clean d bytes k (get_or cards k []) few (omega (arith, below, some)) (chain.each k below) (chain.stand k below)) in
    or_next (option_or (magic_fault (take 4 bytes)) fields) (option_or all (excess_fault d bytes)) head
    ∙ or_next all (excess_fault d bytes) none ∙ once_no bytes (chain_length d + 1) (Some (Excess (chain_length d))) (omega (arith, long))

pub chain_ends : (d : CardDesign) (bytes : List ℕ) (face : Face) (cards : List (List Bool)) → d.hooks < 2 ^ 32 → d.picks < 2 ^ 32 → Chain d bytes face cards → end_fault d bytes ≡ None
unfolding end_fault
chain_ends d bytes face cards few some chain =
    let long = chain.long in
    or_next (chain_fault d bytes) (cond (ltb (length bytes) (chain_length d)) (Some (Truncated (chain_length d) (length bytes))) None) (chain_clean d bytes face cards few some chain)
    ∙ ap (λ b. cond b (Some (Truncated (chain_length d) (length bytes))) None) (le-ltb (length bytes) (chain_length d) (omega (arith, long)))

-- ---- one chain, one card set

part_same : (one other : List ℕ) (at : ℕ) (part : List ℕ) (n : ℕ) → length part ≡ n → StandsAt one at part → StandsAt other at part
    → (i : ℕ) → at ≤ i → i < at + n → get_or one i 0 ≡ get_or other i 0
part_same one other at part n long a b i from low =
    let e : at + (i - at) ≡ i = omega (arith, from) in
    ap (λ (k : ℕ). get_or one k 0) (sym e) ∙ a (i - at) (omega (arith, from, low, long)) ∙ sym (b (i - at) (omega (arith, from, low, long))) ∙ ap (λ (k : ℕ). get_or other k 0) e

same_below : (d : CardDesign) (one other : List ℕ) (face : Face) (cards : List (List Bool)) → Chain d one face cards → Chain d other face cards
    → (n : ℕ) → n ≤ d.picks → (i : ℕ) → i < card_place d.hooks n → get_or one i 0 ≡ get_or other i 0
same_below d one other face cards a b zero few i low =
    let first = card_first d.hooks in
    ⊎_elim (λ (h : i < 4). part_same one other 0 (magic face) 4 (four face) a.magic_bytes b.magic_bytes i (omega arith) (omega (arith, h)))
    (λ (from : 4 ≤ i).
    ⊎_elim (λ (h : i < 8). part_same one other 4 (big_bytes 4 d.hooks) 4 refl a.hooks b.hooks i from (omega (arith, h)))
    (λ (past : 8 ≤ i). part_same one other 8 (big_bytes 4 d.picks) 4 refl a.picks b.picks i past (omega (arith, low, first)))
    (cases_lt i 8))
    (cases_lt i 4) where
      four : (face : Face) → length (magic face) ≡ 4
      four Up = refl
      four Down = refl
same_below d one other face cards a b (suc n) few i low =
    let at = card_place d.hooks n in
    let next = card_next d.hooks n in
    let card = get_or cards n [] in
    let below : n < d.picks = omega (arith, few) in
    let ca = a.stand n below in
    let cb = b.stand n below in
    let width = (a.each n below).width in
    let bytes = length-packed card in
    ⊎_elim (λ (h : i < at). same_below d one other face cards a b n (omega (arith, few)) i h)
    (λ (from : at ≤ i).
    ⊎_elim (λ (h : i < at + 4). part_same one other at (big_bytes 4 n) 4 refl ca.number cb.number i from h)
    (λ (more : at + 4 ≤ i).
    ⊎_elim (λ (h : i < at + 8). part_same one other (at + 4) (big_bytes 4 (hole_count card)) 4 refl ca.count cb.count i more (omega (arith, h)))
    (λ (holes : at + 8 ≤ i). part_same one other (at + 8) (packed card) (hole_bytes d.hooks) (bytes ∙ ap hole_bytes width) ca.holes cb.holes i holes (omega (arith, low, next)))
    (cases_lt i (at + 8)))
    (cases_lt i (at + 4)))
    (cases_lt i at)

pub one_chain : (d : CardDesign) (one other : List ℕ) (face : Face) (cards : List (List Bool)) → Chain d one face cards → Chain d other face cards → one ≡ other
one_chain d one other face cards a b =
    ext_get_or 0 one other (a.long ∙ sym b.long) (λ i low. let long = a.long in same_below d one other face cards a b d.picks (omega arith) i (omega (arith, low, long)))

pub one_face : (d : CardDesign) (bytes : List ℕ) (one other : Face) (cards more : List (List Bool)) → Chain d bytes one cards → Chain d bytes other more → one ≡ other
one_face d bytes Up Up cards more a b = refl
one_face d bytes Down Down cards more a b = refl
one_face d bytes Up Down cards more a b = let e : 49 ≡ 50 = sym (a.magic_bytes 3 (omega arith)) ∙ b.magic_bytes 3 (omega arith) in absurd (omega (arith, e))
one_face d bytes Down Up cards more a b = let e : 50 ≡ 49 = sym (a.magic_bytes 3 (omega arith)) ∙ b.magic_bytes 3 (omega arith) in absurd (omega (arith, e))

pub one_card_set : (d : CardDesign) (bytes : List ℕ) (one other : Face) (cards more : List (List Bool)) → Chain d bytes one cards → Chain d bytes other more → cards ≡ more
one_card_set d bytes one other cards more a b = ext_get_or [] cards more (a.count ∙ sym b.count) (λ k low. let n = a.count in same k (omega (arith, low, n))) where
  same : (k : ℕ) → k < d.picks → get_or cards k [] ≡ get_or more k []
  same k low =
      let wa = (a.each k low).width in
      let wb = (b.each k low).width in
      let at = card_place d.hooks k + 8 in
      ext_get_or false (get_or cards k []) (get_or more k []) (wa ∙ sym wb)
      (λ h below. sym (stands_hole bytes at (get_or cards k []) (a.stand k low).holes h (omega (arith, below))) ∙ stands_hole bytes at (get_or more k []) (b.stand k low).holes h (omega (arith, below, wa, wb)))

-- ---- the bytes of a card

pub card_room : (d : CardDesign) (bytes : List ℕ) (face : Face) (cards : List (List Bool)) (pick : ℕ) → Chain d bytes face cards → pick < d.picks
    → 12 + pick * (8 + hole_bytes d.hooks) + 8 + hole_bytes d.hooks ≤ length bytes
card_room d bytes face cards pick chain low =
    let place = place_is d.hooks pick in
    let next = card_next d.hooks pick in
    let far = card_place_le d.hooks (suc pick) d.picks (omega (arith, low)) in
    let long = chain.long in
    omega (arith, place, next, far, long)

pub card_part : (d : CardDesign) (bytes : List ℕ) (face : Face) (cards : List (List Bool)) (pick : ℕ) → Chain d bytes face cards → pick < d.picks
    → take (hole_bytes d.hooks) (drop (12 + pick * (8 + hole_bytes d.hooks) + 8) bytes) ≡ packed (get_or cards pick [])
card_part d bytes face cards pick chain low =
    let at = 12 + pick * (8 + hole_bytes d.hooks) + 8 in
    let room = card_room d bytes face cards pick chain low in
    let rest = length-drop at bytes in
    let have = length-take-le (hole_bytes d.hooks) (drop at bytes) (omega (arith, rest, room)) in
    let packs = length-packed (get_or cards pick []) in
    let width = (chain.each pick low).width in
    let place : card_place d.hooks pick + 8 ≡ at = ap (λ (n : ℕ). n + 8) (sym (place_is d.hooks pick)) in
    ext_get_or 0 (take (hole_bytes d.hooks) (drop at bytes)) (packed (get_or cards pick [])) (have ∙ sym (packs ∙ ap hole_bytes width))
    (λ i within. get_or-take (hole_bytes d.hooks) (drop at bytes) i 0 (omega (arith, within, have)) ∙ get_or-drop at bytes i 0
    ∙ ap (λ (n : ℕ). get_or bytes (n + i) 0) (sym place) ∙ (chain.stand pick low).holes i (omega (arith, within, have, packs, width)))
