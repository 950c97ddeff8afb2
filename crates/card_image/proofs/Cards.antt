-- When the parts of a chain tell their faults.
use Rattle.std.proofs.Common.{◌≡◌, ℕ, zero, suc, ◌+◌, ◌-◌, ◌*◌, ◌/◌, ◌^◌, ◌<◌, ◌≤◌, List, ◌++◌, length, length-append, take, drop, Option, Some, None, min, sym, ap, subst, refl, ◌∙◌, arith}
use Rattle.std.proofs.Math.Nat.{mul-le-mul_right, add-mul, div-mul-le_self}
use Rattle.std.proofs.lemmas.List.{take-append-drop, length-take-le}
use Rattle.card_image.specs.Sets.{CardDesign}
use Rattle.std.specs.Option.{option_or}
use Rattle.card_image.specs.Firsts.{first_of}
use Rattle.card_image.specs.Places.{hole_bytes, card_place, chain_length, number_at, hole_at}
use Rattle.card_image.specs.Faults.{once, header_fault, number_fault, magic_fault, holes_fault, card_fault, head_fault, excess_fault, chain_fault}
use Rattle.card_image.specs.declared.fault.ChainFault.{ChainFault}
use Rattle.card_image.specs.declared.fault.ChainFault.TheVariants.{Excess}
use Rattle.card_image.proofs.Firsts.{or_next, or_some, or_none, both_none, first_fewer, first_rest}
use Rattle.card_image.proofs.Alike.{holes_alike, number_longer, hole_longer}
use Rattle.card_image.proofs.Told.{Told, told_both, told_once, told_magic, once_yes, once_no}

pub card_next : (hooks pick : ℕ) → card_place hooks (suc pick) ≡ card_place hooks pick + (8 + hole_bytes hooks)
unfolding card_place
card_next hooks pick =
    let e : suc pick ≡ pick + 1 = omega arith in
    let m = add-mul pick 1 (8 + hole_bytes hooks) in
    ap (λ p. 12 + p * (8 + hole_bytes hooks)) e ∙ omega (arith, m)

pub card_place_le : (hooks p q : ℕ) → p ≤ q → card_place hooks p ≤ card_place hooks q
unfolding card_place
card_place_le hooks p q low = let m = mul-le-mul_right (8 + hole_bytes hooks) low in omega (arith, m)

pub card_first : (hooks : ℕ) → card_place hooks 0 ≡ 12
unfolding card_place
card_first hooks = omega arith

pub told_head : (hooks picks : ℕ) → Told (head_fault hooks picks) 0 12
unfolding head_fault
told_head hooks picks =
    told_both (λ xs. magic_fault (take 4 xs)) (λ xs. option_or (once xs 8 (header_fault 0 hooks (number_at xs 4))) (once xs 12 (header_fault 1 picks (number_at xs 8)))) 0 4 8 12 told_magic
    (told_both (λ xs. once xs 8 (header_fault 0 hooks (number_at xs 4))) (λ xs. once xs 12 (header_fault 1 picks (number_at xs 8))) 8 8 12 12
    (told_once 8 (λ xs. header_fault 0 hooks (number_at xs 4)) (λ xs ys h. ap (header_fault 0 hooks) (number_longer xs ys 4 h)))
    (told_once 12 (λ xs. header_fault 1 picks (number_at xs 8)) (λ xs ys h. ap (header_fault 1 picks) (number_longer xs ys 8 h)))
    (omega arith) (omega arith) (omega arith))
    (omega arith) (omega arith) (omega arith)

pub told_card : (hooks : ℕ) (columns : List ℕ) (pick : ℕ) → Told (λ xs. card_fault hooks columns xs pick) (card_place hooks pick + 4) (card_place hooks (suc pick))
unfolding card_fault
told_card hooks columns pick =
    let next = card_next hooks pick in
    let at = card_place hooks pick in
    let holes : (xs ys : List ℕ) → card_place hooks (suc pick) ≤ length xs
    → holes_fault hooks columns pick (number_at (xs ++ ys) (at + 4)) (hole_at (xs ++ ys) (at + 8)) ≡ holes_fault hooks columns pick (number_at xs (at + 4)) (hole_at xs (at + 8))
    = λ xs ys long.
    ap (λ n. holes_fault hooks columns pick n (hole_at (xs ++ ys) (at + 8))) (number_longer xs ys (at + 4) (omega arith))
    ∙ holes_alike hooks columns pick (number_at xs (at + 4)) (hole_at (xs ++ ys) (at + 8)) (hole_at xs (at + 8)) (λ h low. hole_longer xs ys (at + 8) h (omega arith)) in
    told_both (λ xs. once xs (at + 4) (number_fault pick (number_at xs at)))
    (λ xs. once xs (card_place hooks (suc pick)) (holes_fault hooks columns pick (number_at xs (at + 4)) (hole_at xs (at + 8))))
    (at + 4) (at + 4) (card_place hooks (suc pick)) (card_place hooks (suc pick))
    (told_once (at + 4) (λ xs. number_fault pick (number_at xs at)) (λ xs ys h. ap (number_fault pick) (number_longer xs ys at h)))
    (told_once (card_place hooks (suc pick)) (λ xs. holes_fault hooks columns pick (number_at xs (at + 4)) (hole_at xs (at + 8))) holes)
    (omega arith) (omega arith) (omega arith)

pub told_cards : (hooks : ℕ) (columns : List ℕ) (n : ℕ) → Told (λ xs. first_of (card_fault hooks columns xs) n) 12 (card_place hooks n)
told_cards hooks columns zero = record { early = λ xs h. refl; late = λ xs ys h. refl; stays = λ xs ys f is. absurd (cc) }
told_cards hooks columns (suc n) =
    let next = card_next hooks n in
    let first = card_first hooks in
    let far = card_place_le hooks 0 n (omega arith) in
    told_both (λ xs. first_of (card_fault hooks columns xs) n) (λ xs. card_fault hooks columns xs n) 12 (card_place hooks n) (card_place hooks n + 4) (card_place hooks (suc n))
    (told_cards hooks columns n) (told_card hooks columns n) (omega arith) (omega arith) (omega arith)

pub told_chain : (d : CardDesign) → Told (chain_fault d) 0 (chain_length d + 1)
unfolding chain_fault
told_chain d =
    let first = card_first d.hooks in
    let far = card_place_le d.hooks 0 d.picks (omega arith) in
    told_both (head_fault d.hooks d.picks) (λ xs. option_or (first_of (card_fault d.hooks d.columns xs) d.picks) (excess_fault d xs)) 0 12 12 (chain_length d + 1) (told_head d.hooks d.picks)
    (told_both (λ xs. first_of (card_fault d.hooks d.columns xs) d.picks) (excess_fault d) 12 (chain_length d) (chain_length d + 1) (chain_length d + 1) (told_cards d.hooks d.columns d.picks)
    (told_once (chain_length d + 1) (λ xs. Some (Excess (chain_length d))) (λ xs ys h. refl)) (omega arith) (omega arith) (omega arith))
    (omega arith) (omega arith) (omega arith)

-- what the bytes so far show stays, whatever follows
pub fault_stays : (d : CardDesign) (xs ys : List ℕ) (f : ChainFault) → chain_fault d xs ≡ Some f → chain_fault d (xs ++ ys) ≡ Some f
fault_stays d xs ys f is = (told_chain d).stays xs ys f is

pub card_fault_is : (hooks : ℕ) (columns bytes : List ℕ) (pick at : ℕ) (a b : Option ChainFault) → at ≡ card_place hooks pick
    → a ≡ once bytes (at + 4) (number_fault pick (number_at bytes at))
    → b ≡ once bytes (at + (8 + hole_bytes hooks)) (holes_fault hooks columns pick (number_at bytes (at + 4)) (hole_at bytes (at + 8)))
    → option_or a b ≡ card_fault hooks columns bytes pick
unfolding card_fault
card_fault_is hooks columns bytes pick at a b place number whole =
    let p = card_place hooks pick in
    ap (λ o. option_or o b) (number ∙ ap (λ (q : ℕ). once bytes (q + 4) (number_fault pick (number_at bytes q))) place)
    ∙ ap (option_or (once bytes (p + 4) (number_fault pick (number_at bytes p))))
    (whole ∙ ap (λ (q : ℕ). once bytes (q + (8 + hole_bytes hooks)) (holes_fault hooks columns pick (number_at bytes (q + 4)) (hole_at bytes (q + 8)))) place
    ∙ ap (λ (e : ℕ). once bytes e (holes_fault hooks columns pick (number_at bytes (p + 4)) (hole_at bytes (p + 8)))) (sym (card_next hooks pick)))

-- a card of which not even the number is there has no fault yet, nor have those behind it
pub cards_to_come : (hooks : ℕ) (columns bytes : List ℕ) (pick picks at : ℕ) → at ≡ card_place hooks pick → length bytes < at + 4 → pick ≤ picks
    → first_of (card_fault hooks columns bytes) picks ≡ first_of (card_fault hooks columns bytes) pick
cards_to_come hooks columns bytes pick picks at place short low =
    first_rest (card_fault hooks columns bytes) pick picks low
    (λ k from below. let far = card_place_le hooks pick k from in (told_card hooks columns k).early bytes (omega (arith, place, far, short)))

pub cards_there : (hooks picks len n : ℕ) → 12 ≤ len → n ≡ min ((len - 12) / (8 + hole_bytes hooks)) picks → card_place hooks n ≤ len
unfolding card_place
cards_there hooks picks len n long is =
    let q = (len - 12) / (8 + hole_bytes hooks) in
    let low : n ≤ q = omega (arith, is) in
    let m = mul-le-mul_right (8 + hole_bytes hooks) low in
    let d = div-mul-le_self (len - 12) (8 + hole_bytes hooks) in
    omega (arith, m, d, long)

pub place_bound : (hooks n picks : ℕ) → n ≤ picks → card_place hooks picks < 2 ^ 62 → 12 + n * (8 + hole_bytes hooks) < 2 ^ 62
unfolding card_place
place_bound hooks n picks low room = let m = mul-le-mul_right (8 + hole_bytes hooks) low in omega (arith, m, room)

pub place_is : (hooks n : ℕ) → 12 + n * (8 + hole_bytes hooks) ≡ card_place hooks n
unfolding card_place
place_is hooks n = refl

-- the cards that were there whole when no fault was told have none
pub known_before : (d : CardDesign) (bytes : List ℕ) (from n : ℕ) → chain_fault d (take from bytes) ≡ None → n ≤ d.picks → (0 < n → card_place d.hooks n ≤ from)
    → from ≤ length bytes → first_of (card_fault d.hooks d.columns bytes) n ≡ None
unfolding chain_fault
known_before d bytes from zero none few there long = refl
known_before d bytes from (suc n) none few there long =
    let parts = both_none (head_fault d.hooks d.picks (take from bytes)) (option_or (first_of (card_fault d.hooks d.columns (take from bytes)) d.picks) (excess_fault d (take from bytes))) none in
    let cards = (both_none (first_of (card_fault d.hooks d.columns (take from bytes)) d.picks) (excess_fault d (take from bytes)) parts.1).0 in
    let front = length-take-le from bytes long in
    let place = there (omega arith) in
    subst (λ (xs : List ℕ). first_of (card_fault d.hooks d.columns xs) (suc n) ≡ None) (take-append-drop from bytes)
    ((told_cards d.hooks d.columns (suc n)).late (take from bytes) (drop from bytes) (omega (arith, front, place))
    ∙ first_fewer (card_fault d.hooks d.columns (take from bytes)) (suc n) d.picks cards few)

-- the first fault of bytes that are no longer than a chain
pub chain_fault_is : (d : CardDesign) (bytes : List ℕ) (f : Option ChainFault) → length bytes ≤ chain_length d → head_fault d.hooks d.picks bytes ≡ None
    → f ≡ first_of (card_fault d.hooks d.columns bytes) d.picks → f ≡ chain_fault d bytes
unfolding chain_fault
chain_fault_is d bytes f short head cards =
    let cards_of = first_of (card_fault d.hooks d.columns bytes) d.picks in
    cards ∙ sym (or_next (head_fault d.hooks d.picks bytes) (option_or cards_of (excess_fault d bytes)) head
    ∙ ap (option_or cards_of) (once_no bytes (chain_length d + 1) (Some (Excess (chain_length d))) (omega (arith, short))) ∙ or_none cards_of)

pub head_fault_first : (d : CardDesign) (bytes : List ℕ) (f : ChainFault) → head_fault d.hooks d.picks bytes ≡ Some f → Some f ≡ chain_fault d bytes
unfolding chain_fault
head_fault_first d bytes f is = sym (or_some (head_fault d.hooks d.picks bytes) (option_or (first_of (card_fault d.hooks d.columns bytes) d.picks) (excess_fault d bytes)) f is)

-- one byte more than a chain that has no fault
pub too_long : (d : CardDesign) (xs ys : List ℕ) → chain_fault d xs ≡ None → length xs ≡ chain_length d → 0 < length ys → chain_fault d (xs ++ ys) ≡ Some (Excess (chain_length d))
unfolding chain_fault
too_long d xs ys none whole more =
    let n = length-append xs ys in
    let first = card_first d.hooks in
    let far = card_place_le d.hooks 0 d.picks (omega arith) in
    let parts = both_none (head_fault d.hooks d.picks xs) (option_or (first_of (card_fault d.hooks d.columns xs) d.picks) (excess_fault d xs)) none in
    let cards = (both_none (first_of (card_fault d.hooks d.columns xs) d.picks) (excess_fault d xs) parts.1).0 in
    let rest = option_or (first_of (card_fault d.hooks d.columns (xs ++ ys)) d.picks) (excess_fault d (xs ++ ys)) in
    or_next (head_fault d.hooks d.picks (xs ++ ys)) rest ((told_head d.hooks d.picks).late xs ys (omega (arith, whole, first, far)) ∙ parts.0)
    ∙ or_next (first_of (card_fault d.hooks d.columns (xs ++ ys)) d.picks) (excess_fault d (xs ++ ys)) ((told_cards d.hooks d.columns d.picks).late xs ys (omega (arith, whole)) ∙ cards)
    ∙ once_yes (xs ++ ys) (chain_length d + 1) (Some (Excess (chain_length d))) (omega (arith, n, whole, more))

pub place_fits : (hooks picks : ℕ) → hooks < 2 ^ 32 → picks < 2 ^ 32 → card_place hooks picks < 2 ^ 62
unfolding card_place
place_fits hooks picks few some =
    let low : picks ≤ 2 ^ 32 = omega (arith, some) in
    let m = mul-le-mul_right (8 + hole_bytes hooks) low in
    omega (arith, m, few)
