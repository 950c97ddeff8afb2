-- Bytes of the whole length without a fault are a chain.
use Rattle.std.proofs.Common.{◌≡◌, ⊎_elim, ℕ, zero, suc, ◌+◌, ◌-◌, ◌*◌, ◌/◌, ◌%◌, ◌<◌, ◌≤◌, ◌==◌, Bool, true, false, cond, ltb, not, ◌&&◌, ◌||◌, List, [], ◌∷◌, length, take, get_or, Option, Some, None, sym, ap, subst, refl, ◌∙◌, zero-add, arith}
use Rattle.std.proofs.lemmas.List.{get_or-take, get_or_past, length-take-le}
use Rattle.std.proofs.lemmas.Bool.{cases_lt, eqb-true, ltb-false}
use Rattle.std.specs.Int.{bit_at}
use Rattle.byteorder.specs.Endian.{big_bytes}
use Rattle.mill_base.specs.declared.face.Face.{Face}
use Rattle.mill_base.specs.declared.face.Face.TheVariants.{Up, Down}
use Rattle.mill_base.proofs.lemmas.Packs.{length-packed, get_or-packed, byte_packed}
use Rattle.card_image.specs.Sets.{CardDesign}
use Rattle.std.specs.Option.{option_or}
use Rattle.card_image.specs.Firsts.{first_of, passing}
use Rattle.mill_base.specs.Below.{count_below}
use Rattle.card_image.specs.Places.{magic, hole_bytes, card_place, chain_length, number_at, hole_at}
use Rattle.card_image.specs.Sets.{hangs}
use Rattle.card_image.specs.Faults.{begins, once, magic_fault, header_fault, number_fault, has_pad, first_idle, idle_fault, count_fault, holes_fault, card_fault, head_fault, excess_fault, chain_fault, end_fault}
use Rattle.card_image.specs.Chains.{StandsAt, hole_count, IsCard, CardStandsAt, Chain}
use Rattle.card_image.specs.Sets.{hole_of}
use Rattle.card_image.specs.inner.Kept.{face_of, card_of, holes_in}
use Rattle.card_image.specs.declared.fault.ChainFault.TheVariants.{BadMagic, PadBit, Excess, Truncated}
use Rattle.card_image.proofs.Firsts.{both_none, each_none}
use Rattle.mill_base.proofs.lemmas.Belows.{any_not, count_alike}
use Rattle.mill_base.proofs.lemmas.Lines.{length-line_by, get_or-line_by}
use Rattle.card_image.proofs.Told.{once_yes}
use Rattle.card_image.proofs.Cards.{card_next, card_place_le, card_first}
use Rattle.card_image.proofs.Bits.{IsBytes, number_stands}

-- ---- tests that tell nothing

none_true : {A : Type 0} (b : Bool) (x : A) → cond b None (Some x) ≡ None → b ≡ true
none_true true x is = refl
none_true false x is = absurd (cc)

none_false : {A : Type 0} (b : Bool) (x : A) (rest : Option A) → cond b (Some x) rest ≡ None → (b ≡ false) × (rest ≡ None)
none_false true x rest is = absurd (cc)
none_false false x rest is = (refl, is)

no_idle : (pick : ℕ) (o : Option ℕ) → idle_fault pick o ≡ None → o ≡ None
no_idle pick None is = refl
no_idle pick (Some h) is = absurd (cc)

used_hole : (a b : Bool) (h : ℕ) → cond (a && not b) (Some h) None ≡ None → a ≡ true → b ≡ true
used_hole true true h is a = refl
used_hole true false h is a = absurd (cc)
used_hole false b h is a = absurd (cc)

-- ---- the magic

begins_at : (xs ys : List ℕ) → begins xs ys ≡ true → (i : ℕ) → i < length xs → get_or xs i 0 ≡ get_or ys i 0
begins_at [] ys is i low = absurd (omega (arith, low))
begins_at (x ∷ xs) [] is i low = absurd (cc)
begins_at (x ∷ xs) (y ∷ ys) is zero low = eqb-true x y (both (x == y) (begins xs ys) is).0 where
  both : (a b : Bool) → (a && b) ≡ true → (a ≡ true) × (b ≡ true)
  both true b e = (refl, e)
  both false b e = absurd (cc)
begins_at (x ∷ xs) (y ∷ ys) is (suc i) low = begins_at xs ys (both (x == y) (begins xs ys) is).1 i (omega (arith, low)) where
  both : (a b : Bool) → (a && b) ≡ true → (a ≡ true) × (b ≡ true)
  both true b e = (refl, e)
  both false b e = absurd (cc)

magic_at : (bytes : List ℕ) (face : Face) → 4 ≤ length bytes → begins (take 4 bytes) (magic face) ≡ true → (i : ℕ) → i < 4 → get_or bytes i 0 ≡ get_or (magic face) i 0
magic_at bytes face long is i low =
    let front = length-take-le 4 bytes long in
    sym (get_or-take 4 bytes i 0 low) ∙ begins_at (take 4 bytes) (magic face) is i (omega (arith, front, low))

magic_of : (bytes : List ℕ) (face : Face) → face_of bytes ≡ face → ((i : ℕ) → i < 4 → get_or bytes i 0 ≡ get_or (magic face) i 0) → StandsAt bytes 0 (magic (face_of bytes))
magic_of bytes face is each = subst (λ f. StandsAt bytes 0 (magic f)) (sym is) (here face each) where
  here : (face : Face) → ((i : ℕ) → i < 4 → get_or bytes i 0 ≡ get_or (magic face) i 0) → StandsAt bytes 0 (magic face)
  here Up each i low = ap (λ (k : ℕ). get_or bytes k 0) (zero-add i) ∙ each i low
  here Down each i low = ap (λ (k : ℕ). get_or bytes k 0) (zero-add i) ∙ each i low

magic_stands : (bytes : List ℕ) → 4 ≤ length bytes → magic_fault (take 4 bytes) ≡ None → StandsAt bytes 0 (magic (face_of bytes))
magic_stands bytes long none =
    let is = none_true (begins (take 4 bytes) (magic Up) || begins (take 4 bytes) (magic Down)) BadMagic none in
    split (begins (take 4 bytes) (magic Up)) refl is where
      up : begins (take 4 bytes) (magic Up) ≡ true → StandsAt bytes 0 (magic (face_of bytes))
      up is = let each = magic_at bytes Up long is in
          magic_of bytes Up (ap (λ (b : ℕ). cond (b == 50) Down Up) (each 3 (omega arith))) each

      down : begins (take 4 bytes) (magic Down) ≡ true → StandsAt bytes 0 (magic (face_of bytes))
      down is = let each = magic_at bytes Down long is in
          magic_of bytes Down (ap (λ (b : ℕ). cond (b == 50) Down Up) (each 3 (omega arith))) each

      split : (b : Bool) → begins (take 4 bytes) (magic Up) ≡ b → (begins (take 4 bytes) (magic Up) || begins (take 4 bytes) (magic Down)) ≡ true → StandsAt bytes 0 (magic (face_of bytes))
      split true e is = up e
      split false e is = down (ap (λ b. b || begins (take 4 bytes) (magic Down)) (sym e) ∙ is)

-- ---- a card

pub card_width : (hooks : ℕ) (bytes : List ℕ) (pick : ℕ) → length (card_of hooks bytes pick) ≡ hooks
unfolding card_of
card_width hooks bytes pick = length-line_by hooks (hole_at bytes (card_place hooks pick + 8))

pub card_hole : (hooks : ℕ) (bytes : List ℕ) (pick h : ℕ) → h < hooks → hole_of (card_of hooks bytes pick) h ≡ hole_at bytes (card_place hooks pick + 8) h
unfolding card_of
card_hole hooks bytes pick h low = get_or-line_by hooks (hole_at bytes (card_place hooks pick + 8)) h false low

-- the bits of a card's bytes, the pad bits too
card_bit : (hooks : ℕ) (bytes : List ℕ) (pick j i : ℕ) → i < 8 → j < hole_bytes hooks → has_pad hooks (hole_at bytes (card_place hooks pick + 8)) ≡ false
    → (bit_at (get_or bytes (card_place hooks pick + 8 + j) 0) (7 - i) == 1) ≡ get_or (card_of hooks bytes pick) (8 * j + i) false
card_bit hooks bytes pick j i h low pads =
    let at = card_place hooks pick + 8 in
    let q : j ≡ (8 * j + i) / 8 = omega (arith, h) in
    let r : i ≡ (8 * j + i) % 8 = omega (arith, h) in
    ap (λ (k : ℕ). bit_at (get_or bytes (at + k) 0) (7 - i) == 1) q
    ∙ ap (λ (k : ℕ). bit_at (get_or bytes (at + (8 * j + i) / 8) 0) (7 - k) == 1) r
    ∙ ⊎_elim
    (λ (within : 8 * j + i < hooks). sym (card_hole hooks bytes pick (8 * j + i) within))
    (λ (past : hooks ≤ 8 * j + i).
    let e : hooks + (8 * j + i - hooks) ≡ 8 * j + i = omega (arith, past) in
    let width = card_width hooks bytes pick in
    ap (hole_at bytes at) (sym e) ∙ any_not (λ k. hole_at bytes at (hooks + k)) (8 * hole_bytes hooks - hooks) (8 * j + i - hooks) pads (omega (arith, past, low, h))
    ∙ sym (get_or_past (card_of hooks bytes pick) (8 * j + i) false (omega (arith, width, past))))
    (cases_lt (8 * j + i) hooks)

pub card_sound : (d : CardDesign) (bytes : List ℕ) (pick : ℕ) → card_fault d.hooks d.columns bytes pick ≡ None → card_place d.hooks (suc pick) ≤ length bytes → IsBytes bytes
    → IsCard d (card_of d.hooks bytes pick) × CardStandsAt bytes (card_place d.hooks pick) pick (card_of d.hooks bytes pick)
unfolding card_fault holes_fault
card_sound d bytes pick none long small =
    let at = card_place d.hooks pick in
    let card = card_of d.hooks bytes pick in
    let next = card_next d.hooks pick in
    let hole = hole_at bytes (at + 8) in
    let written = number_at bytes (at + 4) in
    let parts = both_none (once bytes (at + 4) (number_fault pick (number_at bytes at))) (once bytes (card_place d.hooks (suc pick)) (holes_fault d.hooks d.columns pick written hole)) none in
    let number_none = sym (once_yes bytes (at + 4) (number_fault pick (number_at bytes at)) (omega (arith, next, long))) ∙ parts.0 in
    let number_is = eqb-true (number_at bytes at) pick (none_true (number_at bytes at == pick) _ number_none) in
    let holes_none = sym (once_yes bytes (card_place d.hooks (suc pick)) (holes_fault d.hooks d.columns pick written hole) long) ∙ parts.1 in
    let pads = none_false (has_pad d.hooks hole) (PadBit pick) (option_or (idle_fault pick (first_idle d.hooks d.columns hole)) (count_fault written (count_below hole d.hooks))) holes_none in
    let rest = both_none (idle_fault pick (first_idle d.hooks d.columns hole)) (count_fault written (count_below hole d.hooks)) pads.1 in
    let idle = no_idle pick (first_idle d.hooks d.columns hole) rest.0 in
    let count_is = eqb-true (count_below hole d.hooks) written (none_true (count_below hole d.hooks == written) _ rest.1) in
    let width = card_width d.hooks bytes pick in
    let counted : hole_count card ≡ written = ap (count_below (hole_of card)) width ∙ count_alike (hole_of card) hole d.hooks (λ h low. card_hole d.hooks bytes pick h low) ∙ count_is in (
      record {
        width = width;
        idle = λ h is. ⊎_elim
            (λ (low : h < d.hooks). used_hole (hole h) (hangs d.columns h) h (each_none (passing (λ k. hole k && not (hangs d.columns k))) d.hooks h idle low) (sym (card_hole d.hooks bytes pick h low) ∙ is))
            (λ (past : d.hooks ≤ h). let e : false ≡ true = sym (get_or_past card h false (omega (arith, width, past))) ∙ is in absurd (cc))
            (cases_lt h d.hooks);
      },
      record {
        number = number_stands bytes at pick small number_is;
        count = number_stands bytes (at + 4) (hole_count card) small (sym counted);
        holes = λ j low.
            let n = length-packed card in
            byte_packed card j (get_or bytes (at + 8 + j) 0) (small (at + 8 + j)) (λ i h. card_bit d.hooks bytes pick j i h (omega (arith, low, n, width)) pads.0)
            ∙ sym (get_or-packed card j 0 (omega (arith, low, n)));
      },
    )

-- ---- the whole

field_sound : (bytes : List ℕ) (field kept at end : ℕ) → end ≡ at + 4 → once bytes end (header_fault field kept (number_at bytes at)) ≡ None → end ≤ length bytes → IsBytes bytes
    → StandsAt bytes at (big_bytes 4 kept)
field_sound bytes field kept at end is none long small =
    let told = sym (once_yes bytes end (header_fault field kept (number_at bytes at)) long) ∙ none in
    number_stands bytes at kept small (eqb-true (number_at bytes at) kept (none_true (number_at bytes at == kept) _ told))

pub cards_count : (d : CardDesign) (bytes : List ℕ) → length (holes_in d bytes) ≡ d.picks
unfolding holes_in
cards_count d bytes = length-line_by d.picks (card_of d.hooks bytes)

pub cards_at : (d : CardDesign) (bytes : List ℕ) (pick : ℕ) → pick < d.picks → get_or (holes_in d bytes) pick [] ≡ card_of d.hooks bytes pick
unfolding holes_in
cards_at d bytes pick low = get_or-line_by d.picks (card_of d.hooks bytes) pick [] low

-- bytes that show no fault are no more than a chain
none_past : (d : CardDesign) (bytes : List ℕ) → chain_fault d bytes ≡ None → length bytes ≤ chain_length d
unfolding chain_fault
none_past d bytes none =
    let parts = both_none (head_fault d.hooks d.picks bytes) (option_or (first_of (card_fault d.hooks d.columns bytes) d.picks) (excess_fault d bytes)) none in
    let last = both_none (first_of (card_fault d.hooks d.columns bytes) d.picks) (excess_fault d bytes) parts.1 in
    ⊎_elim
    (λ (low : length bytes < chain_length d + 1). omega (arith, low))
    (λ (past : chain_length d + 1 ≤ length bytes).
    let e : Some (Excess (chain_length d)) ≡ None = sym (once_yes bytes (chain_length d + 1) (Some (Excess (chain_length d))) past) ∙ last.1 in absurd (cc))
    (cases_lt (length bytes) (chain_length d + 1))

-- bytes of the whole length that show no fault are the chain of the cards that they hold
pub chain_sound : (d : CardDesign) (bytes : List ℕ) → chain_fault d bytes ≡ None → length bytes ≡ chain_length d → IsBytes bytes → Chain d bytes (face_of bytes) (holes_in d bytes)
unfolding chain_fault head_fault
chain_sound d bytes none long small =
    let cards_fault = first_of (card_fault d.hooks d.columns bytes) d.picks in
    let fields = option_or (once bytes 8 (header_fault 0 d.hooks (number_at bytes 4))) (once bytes 12 (header_fault 1 d.picks (number_at bytes 8))) in
    let parts = both_none (option_or (magic_fault (take 4 bytes)) fields) (option_or cards_fault (excess_fault d bytes)) none in
    let head = both_none (magic_fault (take 4 bytes)) fields parts.0 in
    let two = both_none (once bytes 8 (header_fault 0 d.hooks (number_at bytes 4))) (once bytes 12 (header_fault 1 d.picks (number_at bytes 8))) head.1 in
    let cards = (both_none cards_fault (excess_fault d bytes) parts.1).0 in
    let first = card_first d.hooks in
    let far = card_place_le d.hooks 0 d.picks (omega arith) in
    let each : (pick : ℕ) → pick < d.picks → IsCard d (card_of d.hooks bytes pick) × CardStandsAt bytes (card_place d.hooks pick) pick (card_of d.hooks bytes pick) = λ pick low.
    let up = card_place_le d.hooks (suc pick) d.picks (omega (arith, low)) in
    card_sound d bytes pick (each_none (card_fault d.hooks d.columns bytes) d.picks pick cards low) (omega (arith, up, long)) small in
    record {
      long = long;
      magic_bytes = magic_stands bytes (omega (arith, long, first, far)) head.0;
      hooks = field_sound bytes 0 d.hooks 4 8 (omega arith) two.0 (omega (arith, long, first, far)) small;
      picks = field_sound bytes 1 d.picks 8 12 (omega arith) two.1 (omega (arith, long, first, far)) small;
      count = cards_count d bytes;
      each = λ pick low. subst (IsCard d) (sym (cards_at d bytes pick low)) (each pick low).0;
      stand = λ pick low. subst (CardStandsAt bytes (card_place d.hooks pick) pick) (sym (cards_at d bytes pick low)) (each pick low).1;
    }

-- so bytes that have no fault at their end are a chain
pub whole_sound : (d : CardDesign) (bytes : List ℕ) → IsBytes bytes → end_fault d bytes ≡ None → Chain d bytes (face_of bytes) (holes_in d bytes)
unfolding end_fault
whole_sound d bytes small none =
    let ends = both_none (chain_fault d bytes) (cond (ltb (length bytes) (chain_length d)) (Some (Truncated (chain_length d) (length bytes))) None) none in
    chain_sound d bytes ends.0 (exact (reaches (ltb (length bytes) (chain_length d)) refl ends.1) (none_past d bytes ends.0)) small where
      reaches : (b : Bool) → ltb (length bytes) (chain_length d) ≡ b → cond b (Some (Truncated (chain_length d) (length bytes))) None ≡ None → chain_length d ≤ length bytes
      reaches true is e = absurd (cc)
      reaches false is e = ltb-false (length bytes) (chain_length d) is

      exact : chain_length d ≤ length bytes → length bytes ≤ chain_length d → length bytes ≡ chain_length d
      exact a b = omega (arith, a, b)
