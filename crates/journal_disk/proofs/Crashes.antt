-- What a crash leaves in each of the steps by which a block gets on a disk.
use Rattle.std.proofs.Common.{◌≡◌, inl, inr, ℕ, suc, ◌+◌, ◌<◌, ◌≤◌, max, List, [], ◌∷◌, ◌++◌, length, take, drop, get_or, sym, ◌∙◌, ap, subst, arith, length-append, take-append-drop}
use Rattle.std.proofs.lemmas.Bool.{cases_eq}
use Rattle.std.proofs.lemmas.List.{take_at, drop_at, drop_more, take_all, take-append-le, append_assoc, length-take-le}
use Rattle.std.proofs.Math.Seq.{take-suc}
use Rattle.journal_disk.specs.Disks.{State, MayLeave, Untouched, reach, put_over}
use Rattle.journal_disk.specs.Gates.{ShutAt, StillShut, ShutOrOpened}
use Rattle.journal_disk.proofs.lemmas.Logs.{kept_front, kept_back}

module _ (before : List ℕ) (place : ℕ) (body : List ℕ) (shut_at : ShutAt before place) where
  abbrev P : List ℕ → Type 0
  P c = ShutOrOpened before place body c

  -- the body behind the place
  abbrev pub staged : List ℕ
  staged = put_over before (place + 1) body

  -- and 1 at the place
  abbrev pub opened : List ℕ
  opened = put_over staged place (1 ∷ [])

  abbrev tail : List ℕ
  tail = drop (place + 1 + length body) before

  front_length : length (take (place + 1) before) ≡ place + 1
  front_length = length-take-le (place + 1) before (omega (arith, shut_at.within))

  -- what stands up to the place and at it
  pub still : (c : List ℕ) → take (place + 1) c ≡ take (place + 1) before → StillShut before place c
  still c same =
      let next : suc place ≡ place + 1 = omega arith in
      let whole : take (place + 1) before ≡ take place before ++ get_or before place 0 ∷ [] =
      subst (λ (n : ℕ). take n before ≡ take place before ++ get_or before place 0 ∷ []) next (take-suc before place 0 shut_at.within) in
      record {
        gate = get_or before place 0;
        rest = drop (place + 1) c;
        shut = shut_at.shut;
        parts = sym (take-append-drop (place + 1) c) ∙ ap (λ (l : List ℕ). l ++ drop (place + 1) c) (same ∙ whole) ∙ append_assoc (take place before) (get_or before place 0 ∷ []) (drop (place + 1) c);
      }

  -- the body stands behind the place, whatever stands at it
  pub either : (c : List ℕ) → place < length c → take place c ≡ take place before → drop (place + 1) c ≡ body ++ tail → P c
  either c long front back =
      let gate = get_or c place 0 in
      let whole : c ≡ take place before ++ gate ∷ (body ++ tail) =
      sym (take-append-drop place c) ∙ ap (λ (l : List ℕ). l ++ drop place c) front ∙ ap (λ (l : List ℕ). take place before ++ l) (drop_more c place 0 long ∙ ap (λ (l : List ℕ). gate ∷ l) back) in
      elim (cases_eq gate 1) [
        | inl is_open ↦ inr (record { rest = tail; parts = whole ∙ ap (λ (g : ℕ). take place before ++ g ∷ (body ++ tail)) is_open })
        | inr shut ↦ inl (record { gate = gate; rest = body ++ tail; shut = shut; parts = whole })
      ]

  staged_is : staged ≡ take (place + 1) before ++ (body ++ tail)
  staged_is = append_assoc (take (place + 1) before) body tail

  staged_front : take (place + 1) staged ≡ take (place + 1) before
  staged_front = ap (λ (l : List ℕ). take (place + 1) l) staged_is ∙ take_at (take (place + 1) before) (body ++ tail) (place + 1) front_length

  staged_back : drop (place + 1) staged ≡ body ++ tail
  staged_back = ap (λ (l : List ℕ). drop (place + 1) l) staged_is ∙ drop_at (take (place + 1) before) (body ++ tail) (place + 1) front_length

  pub staged_long : place + 1 ≤ length staged
  staged_long = omega (arith, ap length staged_is, front_length, length-append (take (place + 1) before) (body ++ tail))

  -- up to a place before it two files that are the same up to a later one are the same
  shorter : (xs ys : List ℕ) → place + 1 ≤ length xs → place + 1 ≤ length ys → take (place + 1) xs ≡ take (place + 1) ys → take place xs ≡ take place ys
  shorter xs ys long_xs long_ys same =
      sym (cut xs long_xs) ∙ ap (λ (l : List ℕ). take place l) same ∙ cut ys long_ys
    where
      cut : (zs : List ℕ) → place + 1 ≤ length zs → take place (take (place + 1) zs) ≡ take place zs
      cut zs long =
          let len = length-take-le (place + 1) zs long in
          sym (take-append-le place (take (place + 1) zs) (drop (place + 1) zs) (omega (arith, len))) ∙ ap (λ (l : List ℕ). take place l) (take-append-drop (place + 1) zs)

  staged_start : take place staged ≡ take place before
  staged_start = shorter staged before staged_long (omega (arith, shut_at.within)) staged_front

  -- at rest before the first write
  pub at_first : (s : State) (c : List ℕ) → s.synced ≡ before → s.pending ≡ [] → MayLeave s c → P c
  at_first s c on_disk none left =
      inl (still c (kept_front s (place + 1) c (omega (arith, shut_at.within, ap length on_disk)) (λ i lt. subst (λ ws. Untouched ws i) (sym none) tt) left ∙ ap (λ (l : List ℕ). take (place + 1) l) on_disk))

  -- in the first write and after it
  pub at_body : (s : State) (c : List ℕ) (put : ℕ) → s.synced ≡ before → s.pending ≡ (record { at = place + 1; bytes = body; put = put }) ∷ [] → MayLeave s c → P c
  at_body s c put on_disk one left =
      inl (still c (kept_front s (place + 1) c (omega (arith, shut_at.within, ap length on_disk)) (λ i lt. subst (λ ws. Untouched ws i) (sym one) (inl lt, tt)) left ∙ ap (λ (l : List ℕ). take (place + 1) l) on_disk))

  -- when the body is on the disk
  pub at_staged : (s : State) (c : List ℕ) → s.synced ≡ staged → s.pending ≡ [] → MayLeave s c → P c
  at_staged s c on_disk none left =
      inl (still c (kept_front s (place + 1) c (omega (arith, staged_long, ap length on_disk)) (λ i lt. subst (λ ws. Untouched ws i) (sym none) tt) left ∙ ap (λ (l : List ℕ). take (place + 1) l) on_disk ∙ staged_front))

  -- in the second write and after it
  pub at_gate : (s : State) (c : List ℕ) (put : ℕ) → s.synced ≡ staged → s.pending ≡ (record { at = place; bytes = 1 ∷ []; put = put }) ∷ [] → MayLeave s c → P c
  at_gate s c put on_disk one left =
      let len = ap length on_disk in
      let most : length c ≤ max (length s.synced) (place + 1) = subst (λ ws. length c ≤ reach ws (length s.synced)) one left.no_longer in
      let same : length c ≡ length s.synced = omega (arith, most, left.no_shorter, staged_long, len) in
      let front = kept_front s place c (omega (arith, staged_long, len)) (λ i lt. subst (λ ws. Untouched ws i) (sym one) (inl lt, tt)) left in
      let back = kept_back s (place + 1) c same (λ i le. subst (λ ws. Untouched ws i) (sym one) (inr le, tt)) left in
      either c (omega (arith, same, staged_long, len)) (front ∙ ap (λ (l : List ℕ). take place l) on_disk ∙ staged_start) (back ∙ ap (λ (l : List ℕ). drop (place + 1) l) on_disk ∙ staged_back)

  pub is_opened : opened ≡ take place before ++ 1 ∷ (body ++ tail)
  is_opened =
      append_assoc (take place staged) (1 ∷ []) (drop (place + 1) staged) ∙ ap (λ (l : List ℕ). l ++ 1 ∷ drop (place + 1) staged) staged_start
      ∙ ap (λ (l : List ℕ). take place before ++ 1 ∷ l) staged_back

  -- when the 1 is on the disk
  pub at_last : (s : State) (c : List ℕ) → s.synced ≡ opened → s.pending ≡ [] → MayLeave s c → P c
  at_last s c on_disk none left =
      let most : length c ≤ length s.synced = subst (λ ws. length c ≤ reach ws (length s.synced)) none left.no_longer in
      let same = kept_front s (length c) c (omega (arith, left.no_shorter, most)) (λ i lt. subst (λ ws. Untouched ws i) (sym none) tt) left in
      let all : c ≡ s.synced = sym (take_all (length c) c (omega arith)) ∙ same ∙ take_all (length c) s.synced (omega (arith, left.no_shorter)) in
      inr (record { rest = tail; parts = all ∙ on_disk ∙ is_opened })
