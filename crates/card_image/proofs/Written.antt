-- A chain that is written card by card.
use Rattle.std.proofs.Common.{◌≡◌, ⊎_elim, ℕ, suc, ◌+◌, ◌^◌, ◌<◌, ◌≤◌, Bool, None, List, [], ◌++◌, length, length-append, append_assoc, get_or, sym, ap, subst, refl, ◌∙◌, zero-add, arith}
use Rattle.std.proofs.lemmas.List.{get_or_append_left, get_or-append-add}
use Rattle.std.proofs.lemmas.Bool.{cases_lt}
use Rattle.byteorder.specs.Endian.{big_bytes}
use Rattle.mill_base.specs.Bits.{packed}
use Rattle.mill_base.specs.declared.face.Face.{Face}
use Rattle.mill_base.specs.declared.face.Face.TheVariants.{Up, Down}
use Rattle.mill_base.proofs.lemmas.Packs.{length-packed}
use Rattle.card_image.specs.Sets.{CardDesign, CardsValue, design_by}
use Rattle.card_image.specs.Places.{magic, hole_bytes, card_place}
use Rattle.card_image.specs.Chains.{StandsAt, IsCard, CardStandsAt, Chain, hole_count}
use Rattle.card_image.specs.inner.Kept.{head_bytes, card_bytes, face_of, holes_in}
use Rattle.card_image.proofs.Cards.{card_next, card_first, card_place_le}
use Rattle.casting_out.specs.Castings.{CastingValue}
use Rattle.card_image.specs.Faults.{chain_fault}
use Rattle.card_image.proofs.Complete.{one_chain, one_face, one_card_set, chain_clean}

-- the head and the first n cards are written
pub record Written (d : CardDesign) (bytes : List ℕ) (face : Face) (cards : List (List Bool)) (n : ℕ) : Type 0 where
  pub long : length bytes ≡ card_place d.hooks n
  pub magic_bytes : StandsAt bytes 0 (magic face)
  pub hooks : StandsAt bytes 4 (big_bytes 4 d.hooks)
  pub picks : StandsAt bytes 8 (big_bytes 4 d.picks)
  pub stand : (pick : ℕ) → pick < n → CardStandsAt bytes (card_place d.hooks pick) pick (get_or cards pick [])

-- what stands in bytes stands in them whatever follows
stands_longer : (xs ys : List ℕ) (at n : ℕ) (part : List ℕ) → length part ≡ n → at + n ≤ length xs → StandsAt xs at part → StandsAt (xs ++ ys) at part
stands_longer xs ys at n part long room stands i low = get_or_append_left xs ys 0 (at + i) (omega (arith, long, room, low)) ∙ stands i low

-- a part behind bytes stands at their end
stands_behind : (xs part : List ℕ) (at : ℕ) → length xs ≡ at → StandsAt (xs ++ part) at part
stands_behind xs part at long i low = ap (λ (k : ℕ). get_or (xs ++ part) (k + i) 0) (sym long) ∙ get_or-append-add xs part i 0

four : (face : Face) → length (magic face) ≡ 4
four Up = refl
four Down = refl

pub written_head : (d : CardDesign) (face : Face) (cards : List (List Bool)) (bytes : List ℕ) → bytes ≡ head_bytes d.hooks d.picks face → Written d bytes face cards 0
written_head d face cards bytes are = subst (λ (xs : List ℕ). Written d xs face cards 0) (sym are) (record {
  long = n2 ∙ sym (card_first d.hooks);
  magic_bytes = stands_longer (m ++ h) p 0 4 m (four face) (omega (arith, n1)) (stands_longer m h 0 4 m (four face) (omega (arith, four face)) (λ i low. ap (λ (k : ℕ). get_or m k 0) (zero-add i)));
  hooks = stands_longer (m ++ h) p 4 4 h refl (omega (arith, n1)) (stands_behind m h 4 (four face));
  picks = stands_behind (m ++ h) p 8 n1;
  stand = λ pick low. absurd (omega (arith, low));
}) where
  m : List ℕ
  m = magic face

  h : List ℕ
  h = big_bytes 4 d.hooks

  p : List ℕ
  p = big_bytes 4 d.picks

  n1 : length (magic face ++ big_bytes 4 d.hooks) ≡ 8
  n1 = length-append (magic face) (big_bytes 4 d.hooks) ∙ ap (λ (n : ℕ). n + 4) (four face)

  n2 : length (magic face ++ big_bytes 4 d.hooks ++ big_bytes 4 d.picks) ≡ 12
  n2 = length-append (magic face ++ big_bytes 4 d.hooks) (big_bytes 4 d.picks) ∙ ap (λ (n : ℕ). n + 4) n1

card_longer : (xs ys : List ℕ) (at pick : ℕ) (card : List Bool) → at + 8 + hole_bytes (length card) ≤ length xs → CardStandsAt xs at pick card → CardStandsAt (xs ++ ys) at pick card
card_longer xs ys at pick card room stands = record {
  number = stands_longer xs ys at 4 (big_bytes 4 pick) refl (omega (arith, room)) stands.number;
  count = stands_longer xs ys (at + 4) 4 (big_bytes 4 (hole_count card)) refl (omega (arith, room)) stands.count;
  holes = stands_longer xs ys (at + 8) (hole_bytes (length card)) (packed card) (length-packed card) room stands.holes;
}

card_behind : (xs : List ℕ) (at pick : ℕ) (card : List Bool) → length xs ≡ at → CardStandsAt (xs ++ card_bytes pick card) at pick card
card_behind xs at pick card long =
    subst (λ (ys : List ℕ). CardStandsAt ys at pick card) together (record {
      number = stands_longer (xs ++ n ++ c) h at 4 n refl (omega (arith, two)) (stands_longer (xs ++ n) c at 4 n refl (omega (arith, one)) (stands_behind xs n at long));
      count = stands_longer (xs ++ n ++ c) h (at + 4) 4 c refl (omega (arith, two)) (stands_behind (xs ++ n) c (at + 4) one);
      holes = stands_behind (xs ++ n ++ c) h (at + 8) two;
    }) where
      n : List ℕ
      n = big_bytes 4 pick

      c : List ℕ
      c = big_bytes 4 (hole_count card)

      h : List ℕ
      h = packed card

      one : length (xs ++ big_bytes 4 pick) ≡ at + 4
      one = length-append xs (big_bytes 4 pick) ∙ ap (λ (k : ℕ). k + 4) long

      two : length (xs ++ big_bytes 4 pick ++ big_bytes 4 (hole_count card)) ≡ at + 8
      two = length-append (xs ++ big_bytes 4 pick) (big_bytes 4 (hole_count card)) ∙ ap (λ (k : ℕ). k + 4) one ∙ omega arith

      together : (xs ++ big_bytes 4 pick ++ big_bytes 4 (hole_count card)) ++ packed card ≡ xs ++ card_bytes pick card
      together = ap (λ ys. ys ++ packed card) (append_assoc xs (big_bytes 4 pick) (big_bytes 4 (hole_count card))) ∙ append_assoc xs (big_bytes 4 pick ++ big_bytes 4 (hole_count card)) (packed card)

card_long : (pick : ℕ) (card : List Bool) → length (card_bytes pick card) ≡ 8 + hole_bytes (length card)
card_long pick card = length-append (big_bytes 4 pick ++ big_bytes 4 (hole_count card)) (packed card) ∙ ap (λ (k : ℕ). 8 + k) (length-packed card)

pub written_more : (d : CardDesign) (bytes more : List ℕ) (face : Face) (cards : List (List Bool)) (n : ℕ) → ((pick : ℕ) → pick < d.picks → IsCard d (get_or cards pick [])) → n < d.picks
    → more ≡ bytes ++ card_bytes n (get_or cards n []) → Written d bytes face cards n → Written d more face cards (n + 1)
written_more d bytes more face cards n each low is before =
    let card = get_or cards n [] in
    let next = card_next d.hooks n in
    let first = card_first d.hooks in
    let far = card_place_le d.hooks 0 n (omega arith) in
    let long = before.long in
    let e : suc n ≡ n + 1 = omega arith in
    let size = card_long n card in
    let width = (each n low).width in
    let new = card_bytes n card in
    let sum = length-append bytes new in
    subst (λ (xs : List ℕ). Written d xs face cards (n + 1)) (sym is) (record {
      long = omega (arith, sum, long, size, width, next) ∙ ap (card_place d.hooks) e;
      magic_bytes = stands_longer bytes new 0 4 (magic face) (four face) (omega (arith, long, first, far)) before.magic_bytes;
      hooks = stands_longer bytes new 4 4 (big_bytes 4 d.hooks) refl (omega (arith, long, first, far)) before.hooks;
      picks = stands_longer bytes new 8 4 (big_bytes 4 d.picks) refl (omega (arith, long, first, far)) before.picks;
      stand = λ pick below. ⊎_elim
          (λ (old : pick < n).
          let wide = (each pick (omega (arith, old, low))).width in
          let after = card_next d.hooks pick in
          let up = card_place_le d.hooks (suc pick) n (omega (arith, old)) in
          card_longer bytes new (card_place d.hooks pick) pick (get_or cards pick []) (omega (arith, long, wide, after, up)) (before.stand pick old))
          (λ (last : n ≤ pick).
          let here : n ≡ pick = omega (arith, last, below) in
          subst (λ (k : ℕ). CardStandsAt (bytes ++ new) (card_place d.hooks k) k (get_or cards k [])) here (card_behind bytes (card_place d.hooks n) n card long))
          (cases_lt pick n);
    })

pub written_chain : (d : CardDesign) (bytes : List ℕ) (face : Face) (cards : List (List Bool)) → length cards ≡ d.picks → ((pick : ℕ) → pick < d.picks → IsCard d (get_or cards pick []))
    → Written d bytes face cards d.picks → Chain d bytes face cards
written_chain d bytes face cards count each all = record {
  long = all.long;
  magic_bytes = all.magic_bytes;
  hooks = all.hooks;
  picks = all.picks;
  count = count;
  each = each;
  stand = all.stand;
}

-- the set whose chain it is has these cards and this face
pub set_of_chain : (d : CardDesign) (bytes : List ℕ) (face : Face) (cards : List (List Bool)) (v : CardsValue) → Chain d bytes face cards → v.design ≡ d → Chain d bytes v.face v.holes
    → v ≡ record { design = d; face = face; holes = cards }
set_of_chain d bytes face cards v chain same other =
    ap (λ (e : CardDesign). record { design = e; face = v.face; holes = v.holes }) same
    ∙ ap (λ (f : Face). record { design = d; face = f; holes = v.holes }) (one_face d bytes v.face face v.holes cards other chain)
    ∙ ap (λ (cs : List (List Bool)). record { design = d; face = face; holes = cs }) (one_card_set d bytes v.face face v.holes cards other chain)

-- ---- what a writer of cards keeps

pub begun : (d : CardDesign) (face : Face) (cards : List (List Bool)) (old new : List ℕ) (hooks picks : ℕ) → old ≡ [] → new ≡ old ++ head_bytes hooks picks face → hooks ≡ d.hooks → picks ≡ d.picks
    → Written d new face cards 0
begun d face cards old new hooks picks none is same_hooks same_picks =
    written_head d face cards new (is ∙ ap (λ (xs : List ℕ). xs ++ head_bytes hooks picks face) none
    ∙ ap (λ (h : ℕ). head_bytes h picks face) same_hooks ∙ ap (λ (p : ℕ). head_bytes d.hooks p face) same_picks)

pub gone_on : (d : CardDesign) (bytes more : List ℕ) (face : Face) (cards : List (List Bool)) (n : ℕ) (card : List Bool) → ((pick : ℕ) → pick < d.picks → IsCard d (get_or cards pick []))
    → n < d.picks → more ≡ bytes ++ card_bytes n card → card ≡ get_or cards n [] → Written d bytes face cards n → Written d more face cards (n + 1)
gone_on d bytes more face cards n card each low is same before =
    written_more d bytes more face cards n each low (is ∙ ap (λ (c : List Bool). bytes ++ card_bytes n c) same) before

pub ended : (d : CardDesign) (bytes : List ℕ) (face : Face) (cards : List (List Bool)) (n : ℕ) → length cards ≡ d.picks → ((pick : ℕ) → pick < d.picks → IsCard d (get_or cards pick []))
    → n ≡ d.picks → Written d bytes face cards n → Chain d bytes face cards
ended d bytes face cards n count each all before = written_chain d bytes face cards count each (subst (Written d bytes face cards) all before)

pub same_design : (casting : CastingValue) (n hooks picks : ℕ) (columns : List ℕ) → hooks ≡ casting.hooks → picks ≡ n → columns ≡ casting.columns
    → record { hooks = hooks; picks = picks; columns = columns } ≡ design_by casting n
same_design casting n hooks picks columns a b e = rw (a, b, e) refl

-- the set of the chain that was written
pub written_set : (d e : CardDesign) (bytes : List ℕ) (face : Face) (cards : List (List Bool)) (v : CardsValue) → e ≡ d → Chain d bytes face cards → v.design ≡ e → Chain e bytes v.face v.holes
    → v ≡ record { design = d; face = face; holes = cards }
written_set d e bytes face cards v same chain of_it other =
    set_of_chain d bytes face cards v chain (of_it ∙ same) (subst (λ (x : CardDesign). Chain x bytes v.face v.holes) same other)

pub written_clean : (d e : CardDesign) (bytes : List ℕ) (face : Face) (cards : List (List Bool)) → e ≡ d → d.hooks < 2 ^ 32 → d.picks < 2 ^ 32 → Chain d bytes face cards → chain_fault e bytes ≡ None
written_clean d e bytes face cards same few some chain = ap (λ (x : CardDesign). chain_fault x bytes) same ∙ chain_clean d bytes face cards few some chain

-- sets are the same exactly where their chains are
pub same_sets : (d e : CardDesign) (xs ys : List ℕ) (v w : CardsValue) → record { design = d; face = face_of xs; holes = holes_in d xs } ≡ v → record { design = e; face = face_of ys; holes = holes_in e ys } ≡ w
    → Chain d xs (face_of xs) (holes_in d xs) → Chain e ys (face_of ys) (holes_in e ys) → d ≡ e → (xs ≡ ys → v ≡ w) × (v ≡ w → xs ≡ ys)
same_sets d e xs ys v w of_v of_w one other same = (
  (λ is. sym of_v ∙ ap (λ (x : CardDesign). record { design = x; face = face_of xs; holes = holes_in x xs }) same
      ∙ ap (λ (zs : List ℕ). record { design = e; face = face_of zs; holes = holes_in e zs }) is ∙ of_w),
  λ is.
      let all = of_v ∙ is ∙ sym of_w in
      let faces : face_of xs ≡ face_of ys = ap (λ (x : CardsValue). x.face) all in
      let holes : holes_in d xs ≡ holes_in e ys = ap (λ (x : CardsValue). x.holes) all in
      one_chain e xs ys (face_of ys) (holes_in e ys)
      (subst (λ (cs : List (List Bool)). Chain e xs (face_of ys) cs) holes (subst (λ (f : Face). Chain e xs f (holes_in d xs)) faces (subst (λ (x : CardDesign). Chain x xs (face_of xs) (holes_in d xs)) same one)))
      other,
)
