-- The slots of a plan's acts: they are a merge of the plan, and name its acts in plain order.
use Rattle.std.proofs.Common.{◌≡◌, ◌≢◌, ◌⊎◌, inl, inr, ◌+◌, ◌-◌, ◌<◌, ◌≤◌, ◌==◌, ℕ, suc, Bool, true, false, cond, List, [], ◌∷◌, ◌++◌, length, get_or, map, take, refl, sym, ap, subst, ◌∙◌, append-nil, append_assoc, length-append, length-take, add-one, sum_by, arith}
use Rattle.std.specs.Prelude.{All, filter}
use Rattle.std.specs.List.{flat_map, range_with_len}
use Rattle.std.proofs.Math.Seq.{take-suc}
use Rattle.std.proofs.lemmas.Bool.{cases_eq}
use Rattle.std.proofs.lemmas.List.{map-append}
use Rattle.std.proofs.lemmas.List.Concat.{flat_map-cons}
use Rattle.std.proofs.lemmas.List.Elements.{filter-append, All-append, All-map}
use Rattle.std.proofs.lemmas.List.FromFn.{length-map-range_with_len, map-range_with_len_more}
use Rattle.std.proofs.lemmas.List.Sums.{sum_by-cons}
use Rattle.strokes.specs.declared.act.Act.{Act}
use Rattle.strokes.specs.declared.act.Act.TheVariants.{Commit}
use Rattle.strokes.specs.declared.motifs.NamedMotif.{NamedMotif}
use Rattle.version_journal.specs.Journals.{ActWithMotif, replies, with_motif, with_motifs}
use Rattle.version_journal.specs.declared.entry.Entry.{Entry}
use Rattle.session_file.specs.Plans.{acts_of_plan}
use Rattle.session_file.specs.declared.session.Session.{Session}
use Rattle.session_file.specs.declared.session.ShiftPlan.{ShiftPlan}
use Rattle.shift_model.specs.Logs.{Merge, named_act, numbers_of_painter}
use Rattle.shift_model.specs.Plans.{plan_of, acts_of_painter}
use Rattle.shift_run.specs.inner.Adds.{AddsEntries}
use Rattle.shift_run.specs.inner.Slots.{AddsSlots, Slot, painter_slots, plan_slots, slot_act, slot_of, slots_from}
use Rattle.shift_model.proofs.lemmas.Lists.{All_mono, All_unmap, filter_all, filter_none, is_of, map_twice, not_of}

slot : ℕ → ℕ → ℕ → Slot
slot shift painter number = record { shift = shift; painter = painter; number = number }

-- the slots of one act more, and of one painter more
pub painter_more : (k p n : ℕ) → painter_slots k p (n + 1) ≡ painter_slots k p n ++ record { shift = k; painter = p; number = n + 1 } ∷ []
painter_more k p n = map-range_with_len_more (λ number. record { shift = k; painter = p; number = number }) 1 n (n + 1) (omega arith)

slots_more : (k p : ℕ) (xs : List (List Act)) (acts : List Act) → slots_from k p (xs ++ acts ∷ []) ≡ slots_from k p xs ++ painter_slots k (p + length xs) (length acts)
slots_more k p [] acts = append-nil (painter_slots k p (length acts)) ∙ ap (λ q. painter_slots k q (length acts)) (let e : p ≡ p + 0 = omega arith in e)
slots_more k p (x ∷ xs) acts =
    ap (λ l. painter_slots k p (length x) ++ l) (slots_more k (p + 1) xs acts ∙ ap (λ q. slots_from k (p + 1) xs ++ painter_slots k q (length acts)) (let e : p + 1 + length xs ≡ p + suc (length xs) = omega arith in e))
    ∙ sym (append_assoc (painter_slots k p (length x)) (slots_from k (p + 1) xs) (painter_slots k (p + suc (length xs)) (length acts)))

pub slots_taken : (k : ℕ) (xs : List (List Act)) (n : ℕ) → n < length xs
    → slots_from k 0 (take (n + 1) xs) ≡ slots_from k 0 (take n xs) ++ painter_slots k n (length (get_or xs n []))
slots_taken k xs n h =
    ap (λ m. slots_from k 0 (take m xs)) (add-one n) ∙ ap (slots_from k 0) (take-suc xs n [] h) ∙ slots_more k 0 (take n xs) (get_or xs n [])
    ∙ ap (λ q. slots_from k 0 (take n xs) ++ painter_slots k q (length (get_or xs n []))) (let e : 0 + length (take n xs) ≡ n = omega (arith, length-take n xs) in e)

-- how many there are
pub painter_count : (k p n : ℕ) → length (painter_slots k p n) ≡ n
painter_count k p n = length-map-range_with_len (λ number. record { shift = k; painter = p; number = number }) 1 n

pub slots_count : (k p : ℕ) (xs : List (List Act)) → length (slots_from k p xs) ≡ sum_by length xs
slots_count k p [] = refl
slots_count k p (x ∷ xs) = omega (arith, length-append (painter_slots k p (length x)) (slots_from k (p + 1) xs), painter_count k p (length x), slots_count k (p + 1) xs, sum_by-cons length x xs)

-- whose they are
painter_is : (k p n : ℕ) → All (λ (s : Slot). s.painter ≡ p) (painter_slots k p n)
painter_is k p n = All-map (λ (s : Slot). s.painter ≡ p) (λ number. record { shift = k; painter = p; number = number }) (range_with_len 1 n) (λ i d h. refl)

shift_is : (k p n : ℕ) → All (λ (s : Slot). s.shift ≡ k) (painter_slots k p n)
shift_is k p n = All-map (λ (s : Slot). s.shift ≡ k) (λ number. record { shift = k; painter = p; number = number }) (range_with_len 1 n) (λ i d h. refl)

nothing : (P : Slot → Type 0) → All P []
nothing P i d h = absurd (omega arith)

shifts_are : (k p : ℕ) (xs : List (List Act)) → All (λ (s : Slot). s.shift ≡ k) (slots_from k p xs)
shifts_are k p [] = nothing (λ (s : Slot). s.shift ≡ k)
shifts_are k p (x ∷ xs) = All-append (λ (s : Slot). s.shift ≡ k) (painter_slots k p (length x)) (slots_from k (p + 1) xs) (shift_is k p (length x)) (shifts_are k (p + 1) xs)

painters_high : (k p : ℕ) (xs : List (List Act)) → All (λ (s : Slot). p ≤ s.painter) (slots_from k p xs)
painters_high k p [] = nothing (λ (s : Slot). p ≤ s.painter)
painters_high k p (x ∷ xs) = All-append (λ (s : Slot). p ≤ s.painter) (painter_slots k p (length x)) (slots_from k (p + 1) xs)
    (All_mono (λ (s : Slot). s.painter ≡ p) (λ (s : Slot). p ≤ s.painter) (painter_slots k p (length x)) (λ s e. omega arith) (painter_is k p (length x)))
    (All_mono (λ (s : Slot). p + 1 ≤ s.painter) (λ (s : Slot). p ≤ s.painter) (slots_from k (p + 1) xs) (λ s e. omega arith) (painters_high k (p + 1) xs))

painters_low : (k p : ℕ) (xs : List (List Act)) → All (λ (s : Slot). s.painter < p + length xs) (slots_from k p xs)
painters_low k p [] = nothing (λ (s : Slot). s.painter < p + 0)
painters_low k p (x ∷ xs) = All-append (λ (s : Slot). s.painter < p + suc (length xs)) (painter_slots k p (length x)) (slots_from k (p + 1) xs)
    (All_mono (λ (s : Slot). s.painter ≡ p) (λ (s : Slot). s.painter < p + suc (length xs)) (painter_slots k p (length x)) (λ s e. omega arith) (painter_is k p (length x)))
    (All_mono (λ (s : Slot). s.painter < p + 1 + length xs) (λ (s : Slot). s.painter < p + suc (length xs)) (slots_from k (p + 1) xs) (λ s e. omega arith) (painters_low k (p + 1) xs))

-- the numbers of a painter's slots
numbers_back : (k p : ℕ) (xs : List ℕ) → map (λ (s : Slot). s.number) (map (λ number. record { shift = k; painter = p; number = number }) xs) ≡ xs
numbers_back k p [] = refl
numbers_back k p (x ∷ xs) = ap (λ l. x ∷ l) (numbers_back k p xs)

abbrev of_painter : ℕ → Slot → Bool
of_painter q s = s.painter == q

painter_numbers : (k q p : ℕ) (xs : List (List Act)) → p ≤ q → q < p + length xs
    → map (λ (s : Slot). s.number) (filter (of_painter q) (slots_from k p xs)) ≡ range_with_len 1 (length (get_or xs (q - p) []))
painter_numbers k q p [] low high = absurd (omega arith)
painter_numbers k q p (x ∷ xs) low high =
    ap (map (λ (s : Slot). s.number)) (filter-append (of_painter q) (painter_slots k p (length x)) (slots_from k (p + 1) xs)) ∙ by (cases_eq p q) (painter_numbers k q (p + 1) xs) where
      by : (p ≡ q) ⊎ (p ≢ q)
          → (p + 1 ≤ q → q < p + 1 + length xs → map (λ (s : Slot). s.number) (filter (of_painter q) (slots_from k (p + 1) xs)) ≡ range_with_len 1 (length (get_or xs (q - (p + 1)) [])))
          → map (λ (s : Slot). s.number) (filter (of_painter q) (painter_slots k p (length x)) ++ filter (of_painter q) (slots_from k (p + 1) xs)) ≡ range_with_len 1 (length (get_or (x ∷ xs) (q - p) []))
      by (inl same) later =
          ap (λ l. map (λ (s : Slot). s.number) (l ++ filter (of_painter q) (slots_from k (p + 1) xs)))
          (filter_all (of_painter q) (painter_slots k p (length x)) (All_mono (λ (s : Slot). s.painter ≡ p) (λ (s : Slot). of_painter q s ≡ true) (painter_slots k p (length x)) (λ s e. is_of s.painter q (e ∙ same)) (painter_is k p (length x))))
          ∙ ap (λ l. map (λ (s : Slot). s.number) (painter_slots k p (length x) ++ l))
          (filter_none (of_painter q) (slots_from k (p + 1) xs) (All_mono (λ (s : Slot). p + 1 ≤ s.painter) (λ (s : Slot). of_painter q s ≡ false) (slots_from k (p + 1) xs)
          (λ s e. not_of s.painter q (λ (is : s.painter ≡ q). omega (arith, same))) (painters_high k (p + 1) xs)))
          ∙ ap (map (λ (s : Slot). s.number)) (append-nil (painter_slots k p (length x))) ∙ numbers_back k p (range_with_len 1 (length x))
          ∙ ap (λ i. range_with_len 1 (length (get_or (x ∷ xs) i []))) (let e : 0 ≡ q - p = omega arith in e)
      by (inr other) later =
          ap (λ l. map (λ (s : Slot). s.number) (l ++ filter (of_painter q) (slots_from k (p + 1) xs)))
          (filter_none (of_painter q) (painter_slots k p (length x)) (All_mono (λ (s : Slot). s.painter ≡ p) (λ (s : Slot). of_painter q s ≡ false) (painter_slots k p (length x))
          (λ s e. not_of s.painter q (λ (is : s.painter ≡ q). other (sym e ∙ is))) (painter_is k p (length x))))
          ∙ later (omega (arith, other)) (omega arith)
          ∙ ap (λ i. range_with_len 1 (length (get_or (x ∷ xs) i []))) (let e : suc (q - (p + 1)) ≡ q - p = omega (arith, other) in e)

-- entries by their slots
one_filtered : (p : Slot → Bool) (e : Entry) (es : List Entry) (b : Bool) → map slot_of (filter (λ n. p (slot_of n)) es) ≡ filter p (map slot_of es)
    → map slot_of (cond b (e ∷ filter (λ n. p (slot_of n)) es) (filter (λ n. p (slot_of n)) es)) ≡ cond b (slot_of e ∷ filter p (map slot_of es)) (filter p (map slot_of es))
one_filtered p e es true h = ap (λ l. slot_of e ∷ l) h
one_filtered p e es false h = h

filter_slots : (p : Slot → Bool) (es : List Entry) → map slot_of (filter (λ n. p (slot_of n)) es) ≡ filter p (map slot_of es)
filter_slots p [] = refl
filter_slots p (e ∷ es) = one_filtered p e es (p (slot_of e)) (filter_slots p es)

numbers_by : (q : ℕ) (es : List Entry) → numbers_of_painter q es ≡ map (λ (s : Slot). s.number) (filter (of_painter q) (map slot_of es))
numbers_by q es = sym (map_twice slot_of (λ (s : Slot). s.number) (filter (λ (e : Entry). e.painter == q) es)) ∙ ap (map (λ (s : Slot). s.number)) (filter_slots (of_painter q) es)

merged : (k : ℕ) (plan : ShiftPlan) (new : List Entry) → map slot_of new ≡ plan_slots k plan → Merge plan new
merged k plan new are = record {
  painters = All_unmap slot_of new (λ (s : Slot). s.painter < length plan.painters) (subst (λ (l : List Slot). All (λ (s : Slot). s.painter < length plan.painters) l) (sym are)
      (All_mono (λ (s : Slot). s.painter < 0 + length plan.painters) (λ (s : Slot). s.painter < length plan.painters) (plan_slots k plan) (λ s h. omega arith) (painters_low k 0 plan.painters)));
  numbers = λ q h. numbers_by q new ∙ ap (λ l. map (λ (s : Slot). s.number) (filter (of_painter q) l)) are
      ∙ painter_numbers k q 0 plan.painters (omega arith) (omega arith) ∙ ap (λ i. range_with_len 1 (length (get_or plan.painters i []))) (let e : q - 0 ≡ q = omega arith in e);
}

-- a shift's acts, as they are added to the journal
pub adds_plan : (session : Session) (k : ℕ) (before after : List Entry) → AddsSlots (plan_slots k (plan_of session k)) before after
    → map (λ (e : Entry). e.reply) after ≡ replies session.design session.opening (map (named_act session) after) → AddsEntries session k before after
adds_plan session k before after a replied = record {
  new = a.new;
  are = a.are;
  of_shift = All_unmap slot_of a.new (λ (s : Slot). s.shift ≡ k) (subst (λ (l : List Slot). All (λ (s : Slot). s.shift ≡ k) l) (sym a.named) (shifts_are k 0 (plan_of session k).painters));
  merge = merged k (plan_of session k) a.new a.named;
  replied = replied;
}

-- the acts that the slots name
named_line : (f : ℕ → ActWithMotif) (acts : List Act) (motifs : List NamedMotif) (a : ℕ) → ((i : ℕ) → i < length acts → f (a + i) ≡ with_motif motifs (get_or acts i Commit))
    → map f (range_with_len a (length acts)) ≡ map (with_motif motifs) acts
named_line f [] motifs a each = refl
named_line f (act ∷ acts) motifs a each =
    ap (λ x. x ∷ map f (range_with_len (a + 1) (length acts))) (ap f (let e : a ≡ a + 0 = omega arith in e) ∙ each 0 (omega arith))
    ∙ ap (λ l. with_motif motifs act ∷ l) (named_line f acts motifs (a + 1) (λ i h. ap f (let e : a + 1 + i ≡ a + suc i = omega arith in e) ∙ each (suc i) (omega arith)))

slot_acts : (session : Session) (k p : ℕ) (xs : List (List Act)) → ((i : ℕ) → i < length xs → acts_of_painter (plan_of session k) (p + i) ≡ get_or xs i [])
    → map (slot_act session) (slots_from k p xs) ≡ with_motifs session.motifs (flat_map (λ acts. acts) xs)
slot_acts session k p [] each = refl
slot_acts session k p (x ∷ xs) each =
    map-append (slot_act session) (painter_slots k p (length x)) (slots_from k (p + 1) xs)
    ∙ ap (λ l. l ++ map (slot_act session) (slots_from k (p + 1) xs))
    (map_twice (λ number. record { shift = k; painter = p; number = number }) (slot_act session) (range_with_len 1 (length x))
    ∙ named_line (λ number. slot_act session (record { shift = k; painter = p; number = number })) x session.motifs 1
    (λ i h. ap (λ (l : List Act). with_motif session.motifs (get_or l (1 + i - 1) Commit)) (ap (acts_of_painter (plan_of session k)) (let e : p ≡ p + 0 = omega arith in e) ∙ each 0 (omega arith))
    ∙ ap (λ n. with_motif session.motifs (get_or x n Commit)) (let e : 1 + i - 1 ≡ i = omega arith in e)))
    ∙ ap (λ l. map (with_motif session.motifs) x ++ l) (slot_acts session k (p + 1) xs (λ i h. ap (acts_of_painter (plan_of session k)) (let e : p + 1 + i ≡ p + suc i = omega arith in e) ∙ each (suc i) (omega arith)))
    ∙ sym (map-append (with_motif session.motifs) x (flat_map (λ acts. acts) xs)) ∙ ap (map (with_motif session.motifs)) (sym (flat_map-cons (λ (acts : List Act). acts) x xs))

named_by : (session : Session) (es : List Entry) → map (named_act session) es ≡ map (slot_act session) (map slot_of es)
named_by session es = sym (map_twice slot_of (slot_act session) es)

pub named_plan : (session : Session) (k : ℕ) (new : List Entry) → map slot_of new ≡ plan_slots k (plan_of session k)
    → map (named_act session) new ≡ with_motifs session.motifs (acts_of_plan (plan_of session k))
named_plan session k new are =
    named_by session new ∙ ap (map (slot_act session)) are
    ∙ slot_acts session k 0 (plan_of session k).painters (λ i h. ap (acts_of_painter (plan_of session k)) (let e : 0 + i ≡ i = omega arith in e))
