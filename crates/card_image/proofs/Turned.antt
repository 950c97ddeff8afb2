-- Cards that are turned.
use Rattle.std.proofs.Common.{◌≡◌, ⊎_elim, ℕ, zero, suc, ◌+◌, ◌-◌, ◌*◌, ◌/◌, ◌%◌, ◌<◌, ◌≤◌, ◌==◌, Bool, true, false, not, ◌&&◌, ◌||◌, List, [], length, map, get_or, Option, None, Some, sym, ap, refl, subst, ◌∙◌, arith}
use Rattle.std.specs.Int.{bit_at}
use Rattle.std.proofs.lemmas.Bool.{cases_lt, eqb-true}
use Rattle.std.proofs.lemmas.List.{get_or-map, get_or_past, ext_get_or}
use Rattle.mill_base.specs.Below.{any_below}
use Rattle.mill_base.specs.Bits.{packed}
use Rattle.mill_base.proofs.lemmas.Belows.{any_alike}
use Rattle.mill_base.proofs.lemmas.Lines.{length-line_by, get_or-line_by, line_by_alike, line_is}
use Rattle.mill_base.proofs.lemmas.Packs.{length-packed, get_or-packed, byte_packed, packed_bit}
use Rattle.mill_base.specs.declared.face.Face.{Face}
use Rattle.mill_base.specs.declared.face.Face.TheVariants.{Up, Down}
use Rattle.casting_out.specs.Castings.{CastingValue, IsCasting, column_of}
use Rattle.casting_out.specs.Cards.{card as card_of_row, on_hooks, at_hooks, pierces}
use Rattle.card_image.specs.Sets.{design_by, hangs, hole_of, other_face, turned_card}
use Rattle.card_image.specs.Places.{hole_at, hole_bytes}
use Rattle.card_image.specs.Chains.{IsCard}
use Rattle.card_image.specs.inner.Masks.{IsMask}
use Rattle.card_image.proofs.Cut.{Long, Idle, Hangs, Apart, hangs_where, hangs_nowhere}
use Rattle.card_image.proofs.Masks.{hole_here}

both_true : (a b : Bool) → (a && b) ≡ true → a ≡ true
both_true true b e = refl
both_true false b e = e

turned_idle : (hooks : ℕ) (columns : List ℕ) (card : List Bool) (h : ℕ) → hole_of (turned_card hooks columns card) h ≡ true → hangs columns h ≡ true
turned_idle hooks columns card h set = ⊎_elim
    (λ (low : h < hooks).
    both_true (hangs columns h) (not (hole_of card h)) (sym (get_or-line_by hooks (λ k. hangs columns k && not (hole_of card k)) h false low) ∙ set))
    (λ (past : hooks ≤ h).
    let long = length-line_by hooks (λ k. hangs columns k && not (hole_of card k)) in
    let clear : false ≡ true = sym (get_or_past (turned_card hooks columns card) h false (omega (arith, long, past))) ∙ set in absurd (cc))
    (cases_lt h hooks)

pub turned_at : (hooks : ℕ) (columns : List ℕ) (holes : List (List Bool)) (pick : ℕ) → pick < length holes
    → get_or (map (turned_card hooks columns) holes) pick [] ≡ turned_card hooks columns (get_or holes pick [])
turned_at hooks columns holes pick low = get_or-map (turned_card hooks columns) holes pick [] [] low

pub turned_is_card : (casting : CastingValue) (picks : ℕ) (holes : List (List Bool)) (pick : ℕ) → pick < length holes
    → IsCard (design_by casting picks) (get_or (map (turned_card casting.hooks casting.columns) holes) pick [])
turned_is_card casting picks holes pick low =
    let card = get_or holes pick [] in
    subst (IsCard (design_by casting picks)) (sym (turned_at casting.hooks casting.columns holes pick low)) (record {
      width = length-line_by casting.hooks (λ h. hangs casting.columns h && not (hole_of card h));
      idle = λ h set. turned_idle casting.hooks casting.columns card h set;
    })

any_with : (p : ℕ → Bool) (b : Bool) (n : ℕ) → any_below (λ c. p c && b) n ≡ (any_below p n && b)
any_with p b zero = refl
any_with p b (suc n) = ap (λ a. a || (p n && b)) (any_with p b n) ∙ spread (any_below p n) (p n) b where
  spread : (a c b : Bool) → ((a && b) || (c && b)) ≡ ((a || c) && b)
  spread true true true = refl
  spread true true false = refl
  spread true false true = refl
  spread true false false = refl
  spread false true true = refl
  spread false true false = refl
  spread false false b = refl

-- what the columns have the other way round, put back on the hooks
pub turned_row : (hooks : ℕ) (columns : List ℕ) (card : List Bool) → on_hooks hooks columns (map not (at_hooks columns card)) ≡ turned_card hooks columns card
turned_row hooks columns card =
    line_by_alike false hooks (λ h. any_below (λ c. (get_or columns c 0 == h) && get_or (map not (at_hooks columns card)) c false) (length columns))
    (λ h. hangs columns h && not (hole_of card h))
    (λ h low. any_alike (λ c. (get_or columns c 0 == h) && get_or (map not (at_hooks columns card)) c false) (λ c. (get_or columns c 0 == h) && not (hole_of card h)) (length columns) (cell h)
    ∙ any_with (λ c. get_or columns c 0 == h) (not (hole_of card h)) (length columns)) where
      only_there : (a b c : Bool) → (a ≡ true → b ≡ c) → (a && b) ≡ (a && c)
      only_there true b c same = same refl
      only_there false b c same = refl

      cell : (h c : ℕ) → c < length columns → ((get_or columns c 0 == h) && get_or (map not (at_hooks columns card)) c false) ≡ ((get_or columns c 0 == h) && not (hole_of card h))
      cell h c low = only_there (get_or columns c 0 == h) (get_or (map not (at_hooks columns card)) c false) (not (hole_of card h)) (λ e.
          let long = length-line_by (length columns) (λ c. get_or card (get_or columns c 0) false) in
          get_or-map not (at_hooks columns card) c true false (omega (arith, long, low))
          ∙ ap not (get_or-line_by (length columns) (λ c. get_or card (get_or columns c 0) false) c true low)
          ∙ ap (λ k. not (get_or card k false)) (eqb-true (get_or columns c 0) h e))

pub turned_width : (hooks : ℕ) (columns : List ℕ) (card : List Bool) → length (turned_card hooks columns card) ≡ hooks
turned_width hooks columns card = length-line_by hooks (λ h. hangs columns h && not (hole_of card h))

-- the bytes of a mask without those of a card are the turned card
pub turned_packed : (hooks : ℕ) (columns mask card new : List ℕ) (row : List Bool) → IsMask hooks columns mask → length row ≡ hooks → card ≡ packed row → length new ≡ hole_bytes hooks
    → ((j : ℕ) → get_or new j 0 < 256) → ((h : ℕ) → hole_at new 0 h ≡ (hole_at mask 0 h && not (hole_at card 0 h))) → new ≡ packed (turned_card hooks columns row)
turned_packed hooks columns mask card new row is width are long fits bits =
    let t = turned_card hooks columns row in
    let wide = turned_width hooks columns row in
    let whole = length-packed t in
    ext_get_or 0 new (packed t) (long ∙ sym (whole ∙ ap hole_bytes wide)) (λ j low.
    byte_packed t j (get_or new j 0) (fits j) (λ i few. bit j i few (omega (arith, low, long))) ∙ sym (get_or-packed t j 0 (omega (arith, low, long, wide)))) where
      hole : (h : ℕ) → h < 8 * hole_bytes hooks → hole_at new 0 h ≡ get_or (turned_card hooks columns row) h false
      hole h low = bits h ∙ ap (λ b. b && not (hole_at card 0 h)) (is.bits h low) ∙ ⊎_elim
          (λ (within : h < hooks).
          ap (λ b. hangs columns h && not b)
          (hole_here card h ∙ ap (λ (xs : List ℕ). bit_at (get_or xs (h / 8) 0) (7 - h % 8) == 1) are ∙ packed_bit row h (omega (arith, low, width)))
          ∙ sym (get_or-line_by hooks (λ h. hangs columns h && not (hole_of row h)) h false within))
          (λ (past : hooks ≤ h).
          let wide = turned_width hooks columns row in
          ap (λ b. b && not (hole_at card 0 h)) (is.pads h past) ∙ sym (get_or_past (turned_card hooks columns row) h false (omega (arith, wide, past))))
          (cases_lt h hooks)

      bit : (j i : ℕ) → i < 8 → j < hole_bytes hooks → (bit_at (get_or new j 0) (7 - i) == 1) ≡ get_or (turned_card hooks columns row) (8 * j + i) false
      bit j i few low =
          ap (λ (n : ℕ). bit_at (get_or new n 0) (7 - i) == 1) (let e : j ≡ (8 * j + i) / 8 = omega arith in e)
          ∙ ap (λ (n : ℕ). bit_at (get_or new ((8 * j + i) / 8) 0) (7 - n) == 1) (let e : i ≡ (8 * j + i) % 8 = omega arith in e)
          ∙ sym (hole_here new (8 * j + i)) ∙ hole (8 * j + i) (omega arith)

-- ---- cards of the other face

-- the hole at the hook of a column, as the laws of castings state it
abbrev pub Cell : Type 0
Cell = (casting : CastingValue) (face : Face) (row : List Bool) (c : ℕ) → IsCasting casting → c < length casting.columns
    → get_or (card_of_row casting.hooks casting.columns face row) (get_or casting.columns c 0) false ≡ pierces face (get_or row c false)

other_pierces : (face : Face) (b : Bool) → pierces (other_face face) b ≡ not (pierces face b)
other_pierces Up b = refl
other_pierces Down true = refl
other_pierces Down false = refl

pub turned_face : Long → Idle → Hangs → Apart → Cell → (casting : CastingValue) (face : Face) (row : List Bool) → IsCasting casting
    → turned_card casting.hooks casting.columns (card_of_row casting.hooks casting.columns face row) ≡ card_of_row casting.hooks casting.columns (other_face face) row
turned_face long idle law apart cell casting face row is =
    let one = card_of_row casting.hooks casting.columns face row in
    let other = card_of_row casting.hooks casting.columns (other_face face) row in
    sym (line_is false other casting.hooks (λ h. hangs casting.columns h && not (hole_of one h)) (long casting.hooks casting.columns (other_face face) row)
    (λ h low. at h (column_of casting.columns h) refl)) where
      at : (h : ℕ) (found : Option ℕ) → column_of casting.columns h ≡ found → get_or (card_of_row casting.hooks casting.columns (other_face face) row) h false
          ≡ (hangs casting.columns h && not (hole_of (card_of_row casting.hooks casting.columns face row) h))
      at h None none =
          idle casting.hooks casting.columns (other_face face) row h none
          ∙ sym (ap (λ b. b && not (hole_of (card_of_row casting.hooks casting.columns face row) h)) (hangs_nowhere apart casting.columns h none))
      at h (Some c) some =
          let there = law casting.columns h c some in
          let own : get_or (card_of_row casting.hooks casting.columns face row) h false ≡ pierces face (get_or row c false) =
          ap (λ (k : ℕ). get_or (card_of_row casting.hooks casting.columns face row) k false) (sym there.1) ∙ cell casting face row c is there.0 in
          ap (λ (k : ℕ). get_or (card_of_row casting.hooks casting.columns (other_face face) row) k false) (sym there.1) ∙ cell casting (other_face face) row c is there.0
          ∙ other_pierces face (get_or row c false) ∙ ap not (sym own)
          ∙ sym (ap (λ b. b && not (hole_of (card_of_row casting.hooks casting.columns face row) h)) (hangs_where law casting.columns h (Some c) some (λ e. absurd (cc))))
