-- Bytes stand for one journal, or are none at one place, or are broken at one block.
use Rattle.std.proofs.Common.{◌≡◌, ◌≢◌, ◌⊎◌, inl, inr, ℕ, zero, suc, ◌<◌, ◌≤◌, List, [], ◌∷◌, ◌++◌, length, take, drop, get_or, refl, sym, ◌∙◌, ap, subst, arith, append_assoc, length-append}
use Rattle.std.proofs.lemmas.Bool.{cases_lt}
use Rattle.std.proofs.lemmas.List.{append-nil, append_cancel_left, drop_more, get_or-take, get_or_append_left, length-take-le}
use Rattle.block_journal.specs.declared.mark.Mark.{Mark}
use Rattle.block_journal.specs.Journals.{Rule, IsGood, AllGood, StandsTo, body_of, front, blocks_bytes, header, joined}
use Rattle.block_journal.specs.Opens.{IsBlock, NotJournalAt, BrokenAt}
use Rattle.block_journal.proofs.Reading.{block_once}

-- the one blocks go on from the others, and so what stands behind them begins with the rest
abbrev Goes : List (List Mark) → List (List Mark) → List ℕ → List ℕ → Type 0
Goes bs cs x y = (more : List (List Mark)) × (cs ≡ bs ++ more) × (x ≡ blocks_bytes more ++ y)

-- a good block stands at the front of its bytes, where a byte stands behind it
block_here : (rule : Rule) (before block : List Mark) (rest : List ℕ) → IsGood rule before block → 0 < length rest → IsBlock (body_of block ++ rest) block
block_here rule before block rest good some = record {
  some = good.some;
  few = good.few;
  fits = good.fits;
  gate = get_or rest 0 0;
  rest = drop 1 rest;
  parts = ap (λ (l : List ℕ). body_of block ++ l) (drop_more rest 0 0 some);
}

compare : (rule : Rule) (before : List Mark) (bs cs : List (List Mark)) (x y : List ℕ) → 0 < length x → 0 < length y → AllGood rule before bs → AllGood rule before cs
    → blocks_bytes bs ++ x ≡ blocks_bytes cs ++ y → Goes bs cs x y ⊎ Goes cs bs y x
compare rule before [] cs x y lx ly gb gc e = inl (cs, refl, e)
compare rule before (b ∷ bs) [] x y lx ly gb gc e = inr (b ∷ bs, refl, sym e)
compare rule before (b ∷ bs) (c ∷ cs) x y lx ly gb gc e =
    let whole : body_of b ++ (blocks_bytes bs ++ x) ≡ body_of c ++ (blocks_bytes cs ++ y) =
    sym (append_assoc (body_of b) (blocks_bytes bs) x) ∙ ap (λ (l : List ℕ). drop 1 l) e ∙ append_assoc (body_of c) (blocks_bytes cs) y in
    let is_b : IsBlock (body_of b ++ (blocks_bytes bs ++ x)) b = block_here rule before b (blocks_bytes bs ++ x) gb.0 (omega (arith, lx, length-append (blocks_bytes bs) x)) in
    let is_c : IsBlock (body_of c ++ (blocks_bytes cs ++ y)) c = block_here rule before c (blocks_bytes cs ++ y) gc.0 (omega (arith, ly, length-append (blocks_bytes cs) y)) in
    let same : c ≡ b = block_once (body_of b ++ (blocks_bytes bs ++ x)) c b (subst (λ (l : List ℕ). IsBlock l c) (sym whole) is_c) is_b in
    let behind : blocks_bytes bs ++ x ≡ blocks_bytes cs ++ y =
    append_cancel_left (body_of b) (blocks_bytes bs ++ x) (blocks_bytes cs ++ y) (whole ∙ ap (λ (d : List Mark). body_of d ++ (blocks_bytes cs ++ y)) same) in
    elim (compare rule (before ++ b) bs cs x y lx ly gb.1 (subst (λ (d : List Mark). AllGood rule (before ++ d) cs) same gc.1) behind) [
      | inl goes ↦ inl (goes.0, (λ i. same i ∷ goes.1 i), goes.2)
      | inr goes ↦ inr (goes.0, (λ i. sym same i ∷ goes.1 i), goes.2)
    ]

-- the same behind the header
fronts : (rule : Rule) (digest : List ℕ) (bs cs : List (List Mark)) (x y : List ℕ) → 0 < length x → 0 < length y → AllGood rule [] bs → AllGood rule [] cs
    → front digest bs ++ x ≡ front digest cs ++ y → Goes bs cs x y ⊎ Goes cs bs y x
fronts rule digest bs cs x y lx ly gb gc e =
    compare rule [] bs cs x y lx ly gb gc (append_cancel_left (header digest) (blocks_bytes bs ++ x) (blocks_bytes cs ++ y)
    (sym (append_assoc (header digest) (blocks_bytes bs) x) ∙ e ∙ append_assoc (header digest) (blocks_bytes cs) y))

-- the block behind the first is good
good_after : (rule : Rule) (before : List Mark) (bs : List (List Mark)) (m : List Mark) (more : List (List Mark)) → AllGood rule before (bs ++ m ∷ more) → IsGood rule (before ++ joined bs) m
good_after rule before [] m more good = subst (λ (l : List Mark). IsGood rule l m) (sym (append-nil before)) good.0
good_after rule before (b ∷ bs) m more good =
    subst (λ (l : List Mark). IsGood rule l m) (append_assoc before b (joined bs)) (good_after rule (before ++ b) bs m more good.1)

-- where the byte behind is no 1, no block goes on there
none_behind : (more : List (List Mark)) (gate : ℕ) (x y : List ℕ) → gate ∷ x ≡ blocks_bytes more ++ y → gate ≢ 1 → more ≡ []
none_behind [] gate x y e shut = refl
none_behind (m ∷ more) gate x y e shut = absurd (shut (ap (λ (l : List ℕ). get_or l 0 0) e))

-- where the byte behind is a 1, it does not end the blocks
one_behind : (more : List (List Mark)) (gate : ℕ) (x y : List ℕ) → gate ∷ x ≡ blocks_bytes more ++ 1 ∷ y → gate ≡ 1
one_behind [] gate x y e = ap (λ (l : List ℕ). get_or l 0 0) e
one_behind (m ∷ more) gate x y e = ap (λ (l : List ℕ). get_or l 0 0) e

module _ (rule : Rule) (digest bytes : List ℕ) where
  pub stands_once : (a b : List Mark) (p q : ℕ) → StandsTo rule digest bytes a p → StandsTo rule digest bytes b q → a ≡ b
  stands_once a b p q s t =
      s.marks_are ∙ elim (fronts rule digest s.blocks t.blocks (s.gate ∷ s.rest) (t.gate ∷ t.rest) (omega arith) (omega arith) s.good t.good (sym s.parts ∙ t.parts)) [
        | inl goes ↦ ap joined (sym (append-nil s.blocks) ∙ ap (λ (m : List (List Mark)). s.blocks ++ m) (sym (none_behind goes.0 s.gate s.rest (t.gate ∷ t.rest) goes.2 s.shut)) ∙ sym goes.1)
        | inr goes ↦ ap joined (goes.1 ∙ ap (λ (m : List (List Mark)). t.blocks ++ m) (none_behind goes.0 t.gate t.rest (s.gate ∷ s.rest) goes.2 t.shut) ∙ append-nil t.blocks)
      ] ∙ sym t.marks_are

  -- a block that is good stands where the bytes are said to be broken
  not_bad : (k : ℕ) (broken : BrokenAt rule digest bytes k) (bs more : List (List Mark)) (m : List Mark) (y : List ℕ) → 0 < length y → AllGood rule [] bs → bs ≡ broken.blocks ++ m ∷ more
      → 1 ∷ broken.rest ≡ blocks_bytes (m ∷ more) ++ y → ⊥
  not_bad k broken bs more m y some good is e =
      let here : IsGood rule (joined broken.blocks) m = good_after rule [] broken.blocks m more (subst (λ (l : List (List Mark)). AllGood rule [] l) is good) in
      let rest : broken.rest ≡ body_of m ++ (blocks_bytes more ++ y) = ap (λ (l : List ℕ). drop 1 l) e ∙ append_assoc (body_of m) (blocks_bytes more) y in
      broken.bad m (subst (λ (l : List ℕ). IsBlock l m) (sym rest) (block_here rule (joined broken.blocks) m (blocks_bytes more ++ y) here (omega (arith, some, length-append (blocks_bytes more) y)))) here

  pub stands_not_broken : (a : List Mark) (p k : ℕ) → StandsTo rule digest bytes a p → BrokenAt rule digest bytes k → ⊥
  stands_not_broken a p k s broken =
      elim (fronts rule digest s.blocks broken.blocks (s.gate ∷ s.rest) (1 ∷ broken.rest) (omega arith) (omega arith) s.good broken.good (sym s.parts ∙ broken.parts)) [
        | inl goes ↦ s.shut (one_behind goes.0 s.gate s.rest broken.rest goes.2)
        | inr goes ↦ further goes.0 goes.1 goes.2
      ]
    where
      further : (more : List (List Mark)) → s.blocks ≡ broken.blocks ++ more → 1 ∷ broken.rest ≡ blocks_bytes more ++ s.gate ∷ s.rest → ⊥
      further [] is e = s.shut (sym (ap (λ (l : List ℕ). get_or l 0 0) e))
      further (m ∷ more) is e = not_bad k broken s.blocks more m (s.gate ∷ s.rest) (omega arith) s.good is e

  pub broken_once : (j k : ℕ) → BrokenAt rule digest bytes j → BrokenAt rule digest bytes k → j ≡ k
  broken_once j k one other =
      elim (fronts rule digest one.blocks other.blocks (1 ∷ one.rest) (1 ∷ other.rest) (omega arith) (omega arith) one.good other.good (sym one.parts ∙ other.parts)) [
        | inl goes ↦ same j k one other goes.0 goes.1 goes.2
        | inr goes ↦ sym (same k j other one goes.0 goes.1 goes.2)
      ]
    where
      same : (a b : ℕ) (x : BrokenAt rule digest bytes a) (y : BrokenAt rule digest bytes b) (more : List (List Mark)) → y.blocks ≡ x.blocks ++ more → 1 ∷ x.rest ≡ blocks_bytes more ++ 1 ∷ y.rest → a ≡ b
      same a b x y [] is e = omega (arith, x.count, y.count, ap length is, length-append x.blocks [])
      same a b x y (m ∷ more) is e = absurd (not_bad a x y.blocks more m (1 ∷ y.rest) (omega arith) y.good is e)

  -- bytes that begin with the header, and have one behind it
  pub with_header : (at : ℕ) (rest : List ℕ) → length digest ≡ 32 → 0 < length rest → bytes ≡ header digest ++ rest → NotJournalAt digest bytes at → ⊥
  with_header at rest len some is isnt =
      let long = ap length is in
      elim isnt.here [
        | inl short ↦ absurd (omega (arith, short, isnt.early, long, len, some, length-append (header digest) rest))
        | inr differs ↦ differs.2 (ap (λ (l : List ℕ). get_or l at 0) is ∙ get_or_append_left (header digest) rest 0 at (omega (arith, differs.0, len)))
      ]

  pub stands_is_journal : (a : List Mark) (p at : ℕ) → length digest ≡ 32 → StandsTo rule digest bytes a p → NotJournalAt digest bytes at → ⊥
  stands_is_journal a p at len s =
      with_header at (blocks_bytes s.blocks ++ s.gate ∷ s.rest) len (omega (arith, length-append (blocks_bytes s.blocks) (s.gate ∷ s.rest)))
      (s.parts ∙ append_assoc (header digest) (blocks_bytes s.blocks) (s.gate ∷ s.rest))

  pub broken_is_journal : (k at : ℕ) → length digest ≡ 32 → BrokenAt rule digest bytes k → NotJournalAt digest bytes at → ⊥
  broken_is_journal k at len b =
      with_header at (blocks_bytes b.blocks ++ 1 ∷ b.rest) len (omega (arith, length-append (blocks_bytes b.blocks) (1 ∷ b.rest)))
      (b.parts ∙ append_assoc (header digest) (blocks_bytes b.blocks) (1 ∷ b.rest))

module _ (digest bytes : List ℕ) (len : length digest ≡ 32) where
  -- an earlier byte that is missing or differs
  not_before : (a b : ℕ) → NotJournalAt digest bytes a → NotJournalAt digest bytes b → a < b → ⊥
  not_before a b one other lt =
      let size = length-take-le b (header digest) (omega (arith, other.early, len)) in
      elim one.here [
        | inl short ↦ absurd (omega (arith, short, lt, ap length other.same, size, shorter))
        | inr differs ↦ differs.2 (sym (get_or-take b bytes a 0 lt) ∙ ap (λ (l : List ℕ). get_or l a 0) other.same ∙ get_or-take b (header digest) a 0 lt)
      ]
    where
      length_take_short : (n : ℕ) (xs : List ℕ) → length (take n xs) ≤ length xs
      length_take_short zero xs = omega arith
      length_take_short (suc n) [] = omega arith
      length_take_short (suc n) (x ∷ xs) = omega (arith, length_take_short n xs)

      shorter : length (take b bytes) ≤ length bytes
      shorter = length_take_short b bytes

  pub not_journal_once : (a b : ℕ) → NotJournalAt digest bytes a → NotJournalAt digest bytes b → a ≡ b
  not_journal_once a b one other = elim (cases_lt a b) [
    | inl lt ↦ absurd (not_before a b one other lt)
    | inr ge ↦ elim (cases_lt b a) [
      | inl lt ↦ absurd (not_before b a other one lt)
      | inr le ↦ omega (arith, ge, le)
    ]
  ]
