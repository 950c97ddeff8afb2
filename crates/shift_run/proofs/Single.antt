-- Logs of sessions with one painter in each shift.
use Rattle.std.proofs.Common.{◌≡◌, ◌⊎◌, inl, inr, ◌+◌, ◌<◌, ◌≤◌, ◌==◌, nat_lt, ℕ, zero, suc, Bool, true, false, cond, List, [], ◌∷◌, ◌++◌, length, get_or, map, take, refl, sym, ap, subst, ◌∙◌, append-nil, add-one, arith}
use Rattle.std.specs.Prelude.{All, filter}
use Rattle.std.specs.List.{range_with_len}
use Rattle.std.specs.List.Sorted.{IsNonDecreasing}
use Rattle.std.proofs.Math.Seq.{take-length, take-suc}
use Rattle.std.proofs.lemmas.Bool.{cases_lt}
use Rattle.std.proofs.lemmas.Bool.Decides.{nat_tests}
use Rattle.std.proofs.lemmas.Grind.{flat_map-append}
use Rattle.std.proofs.lemmas.List.{map-append}
use Rattle.std.proofs.lemmas.List.Concat.{flat_map-cons}
use Rattle.strokes.specs.declared.act.Act.{Act}
use Rattle.version_journal.specs.Journals.{with_motif, with_motifs}
use Rattle.version_journal.specs.declared.entry.Entry.{Entry}
use Rattle.version_journal.specs.declared.run_log.RunLog.{RunLog}
use Rattle.session_file.specs.Plans.{acts_of_plan, plain_acts}
use Rattle.session_file.specs.declared.session.Session.{Session}
use Rattle.session_file.specs.declared.session.ShiftPlan.{ShiftPlan}
use Rattle.shift_model.specs.Logs.{Legal, Merge, entries_of_shift, named_act, numbers_of_painter}
use Rattle.shift_model.specs.Plans.{plain_order, plan_of}
use Rattle.shift_run.specs.inner.Slots.{painter_slots, plan_slots, slot_of, slots_from}
use Rattle.shift_model.proofs.lemmas.Lists.{All_mono, All_tail, All_unmap, filter_all, filter_none, is_of}
use Rattle.shift_run.proofs.Slots.{named_plan}

abbrev below : ℕ → Entry → Bool
below k e = nat_lt e.shift k

abbrev within : ℕ → Entry → Bool
within k e = e.shift == k

filter_alike : {X : Type 0} (p q : X → Bool) (xs : List X) → All (λ x. p x ≡ q x) xs → filter p xs ≡ filter q xs
filter_alike p q [] all = refl
filter_alike p q (x ∷ xs) all =
    ap (λ b. cond b (x ∷ filter p xs) (filter p xs)) (all 0 x (omega arith))
    ∙ ap (λ l. cond (q x) (x ∷ l) l) (filter_alike p q xs (All_tail (λ x. p x ≡ q x) x xs all))

filter_holds : {X : Type 0} (p : X → Bool) (xs : List X) → All (λ x. p x ≡ true) (filter p xs)
filter_holds p [] = λ i d h. absurd (omega arith)
filter_holds p (x ∷ xs) = by (p x) refl (filter_holds p xs) where
  by : (b : Bool) → p x ≡ b → All (λ x. p x ≡ true) (filter p xs) → All (λ x. p x ≡ true) (cond b (x ∷ filter p xs) (filter p xs))
  by true is all zero d h = is
  by true is all (suc i) d h = all i d (omega arith)
  by false is all i d h = all i d h

-- the entries of a shift more stand behind those of the shifts before
first_of : (a b c : Bool) (e : Entry) (f g h : List Entry) → f ≡ g ++ h → a ≡ true → b ≡ true → c ≡ false → cond a (e ∷ f) f ≡ cond b (e ∷ g) g ++ cond c (e ∷ h) h
first_of true true false e f g h same x y z = ap (λ l. e ∷ l) same
first_of true true true e f g h same x y z = absurd (cc)
first_of true false c e f g h same x y z = absurd (cc)
first_of false b c e f g h same x y z = absurd (cc)

less : (s k : ℕ) → s < k → nat_lt s k ≡ true
less s k h = grind (arith, nat_tests)

not_less : (s k : ℕ) → k ≤ s → nat_lt s k ≡ false
not_less s k h = grind (arith, nat_tests)

other : (s k : ℕ) → s < k → (s == k) ≡ false
other s k h = grind (arith, nat_tests)

last_one : (s k : ℕ) → k ≤ s → nat_lt s (k + 1) ≡ (s == k)
last_one s k h = grind (arith, nat_tests)

behind : (k : ℕ) (es : List Entry) → IsNonDecreasing (map (λ (e : Entry). e.shift) es) → filter (below (k + 1)) es ≡ filter (below k) es ++ filter (within k) es
behind k [] rises = refl
behind k (e ∷ es) rises = by (cases_lt e.shift k) (behind k es (λ i j d up h. rises (suc i) (suc j) d (omega arith) (omega arith))) where
  high : k ≤ e.shift → All (λ (x : Entry). k ≤ x.shift) (e ∷ es)
  high low = All_unmap (λ (x : Entry). x.shift) (e ∷ es) (λ n. k ≤ n) (λ i d h. omega (arith, low, rises 0 i d (omega arith) h))

  by : (e.shift < k) ⊎ (k ≤ e.shift) → filter (below (k + 1)) es ≡ filter (below k) es ++ filter (within k) es
      → filter (below (k + 1)) (e ∷ es) ≡ filter (below k) (e ∷ es) ++ filter (within k) (e ∷ es)
  by (inl low) rest = first_of (below (k + 1) e) (below k e) (within k e) e (filter (below (k + 1)) es) (filter (below k) es) (filter (within k) es) rest
      (less e.shift (k + 1) (omega arith)) (less e.shift k low) (other e.shift k low)
  by (inr low) rest =
      filter_alike (below (k + 1)) (within k) (e ∷ es) (All_mono (λ (x : Entry). k ≤ x.shift) (λ (x : Entry). below (k + 1) x ≡ within k x) (e ∷ es) (λ x h. last_one x.shift k h) (high low))
      ∙ ap (λ l. l ++ filter (within k) (e ∷ es)) (sym (filter_none (below k) (e ∷ es)
      (All_mono (λ (x : Entry). k ≤ x.shift) (λ (x : Entry). below k x ≡ false) (e ∷ es) (λ x h. not_less x.shift k h) (high low))))

-- the entries of one painter, by their numbers
by_numbers : (k : ℕ) (es : List Entry) → All (λ (e : Entry). e.shift ≡ k) es → All (λ (e : Entry). e.painter ≡ 0) es
    → map slot_of es ≡ map (λ number. record { shift = k; painter = 0; number = number }) (map (λ (e : Entry). e.number) es)
by_numbers k [] shifts painters = refl
by_numbers k (e ∷ es) shifts painters =
    ap (λ s. record { shift = s; painter = e.painter; number = e.number } ∷ map slot_of es) (shifts 0 e (omega arith))
    ∙ ap (λ p. record { shift = k; painter = p; number = e.number } ∷ map slot_of es) (painters 0 e (omega arith))
    ∙ ap (λ l. record { shift = k; painter = 0; number = e.number } ∷ l)
    (by_numbers k es (All_tail (λ (e : Entry). e.shift ≡ k) e es shifts) (All_tail (λ (e : Entry). e.painter ≡ 0) e es painters))

none_of : (es : List Entry) → All (λ (e : Entry). e.painter < 0) es → es ≡ []
none_of [] all = refl
none_of (e ∷ es) all = absurd (omega (arith, all 0 e (omega arith)))

same_number : (s k : ℕ) → (s == k) ≡ true → s ≡ k
same_number s k h = grind (arith, nat_tests)

-- a merge of one painter's acts is these acts
single : (k : ℕ) (plan : ShiftPlan) (painters : List (List Act)) (es : List Entry) → plan.painters ≡ painters → length painters ≤ 1 → All (λ (e : Entry). e.shift ≡ k) es → Merge plan es
    → map slot_of es ≡ slots_from k 0 painters
single k plan [] es is few shifts m =
    ap (map slot_of) (none_of es (subst (λ (l : List (List Act)). All (λ (e : Entry). e.painter < length l) es) is m.painters))
single k plan (acts ∷ []) es is few shifts m =
    let zeros : All (λ (e : Entry). e.painter ≡ 0) es =
    All_mono (λ (e : Entry). e.painter < 1) (λ (e : Entry). e.painter ≡ 0) es (λ e h. omega arith) (subst (λ (l : List (List Act)). All (λ (e : Entry). e.painter < length l) es) is m.painters) in
    let numbers : map (λ (e : Entry). e.number) es ≡ range_with_len 1 (length acts) =
    ap (map (λ (e : Entry). e.number)) (sym (filter_all (λ (e : Entry). e.painter == 0) es (All_mono (λ (e : Entry). e.painter ≡ 0) (λ (e : Entry). (e.painter == 0) ≡ true) es (λ e h. is_of e.painter 0 h) zeros)))
    ∙ m.numbers 0 (omega (arith, ap length is)) ∙ ap (λ (l : List (List Act)). range_with_len 1 (length (get_or l 0 []))) is in
    by_numbers k es shifts zeros ∙ ap (map (λ number. record { shift = k; painter = 0; number = number })) numbers ∙ sym (append-nil (painter_slots k 0 (length acts)))
single k plan (a ∷ b ∷ rest) es is few shifts m = absurd (omega arith)

pub plain_more : (session : Session) (k : ℕ) → k < length session.shifts → plain_acts (take (k + 1) session.shifts) ≡ plain_acts (take k session.shifts) ++ acts_of_plan (plan_of session k)
plain_more session k there =
    ap (λ n. plain_acts (take n session.shifts)) (add-one k) ∙ ap plain_acts (take-suc session.shifts k (record { repeats = []; painters = [] }) there)
    ∙ flat_map-append acts_of_plan (take k session.shifts) (plan_of session k ∷ [])
    ∙ ap (λ l. plain_acts (take k session.shifts) ++ l) (flat_map-cons acts_of_plan (plan_of session k) [] ∙ append-nil (acts_of_plan (plan_of session k)))

all_below : (session : Session) (log : RunLog) → Legal session log → (k : ℕ) → k ≤ length session.shifts → ((j : ℕ) → j < length session.shifts → length (plan_of session j).painters ≤ 1)
    → map (named_act session) (filter (below k) log.entries) ≡ with_motifs session.motifs (plain_acts (take k session.shifts))
all_below session log legal zero low few =
    ap (map (named_act session)) (filter_none (below 0) log.entries (λ i d h. not_less (get_or log.entries i d).shift 0 (omega arith)))
all_below session log legal (suc k) low few =
    let es : List Entry = entries_of_shift k log.entries in
    let shifts : All (λ (e : Entry). e.shift ≡ k) es =
    All_mono (λ (e : Entry). within k e ≡ true) (λ (e : Entry). e.shift ≡ k) es (λ e h. same_number e.shift k h) (filter_holds (within k) log.entries) in
    ap (map (named_act session)) (ap (λ n. filter (below n) log.entries) (sym (add-one k)) ∙ behind k log.entries legal.journal.shifts.order)
    ∙ map-append (named_act session) (filter (below k) log.entries) es
    ∙ ap (λ l. l ++ map (named_act session) es) (all_below session log legal k (omega arith) few)
    ∙ ap (λ l. with_motifs session.motifs (plain_acts (take k session.shifts)) ++ l)
    (named_plan session k es (single k (plan_of session k) (plan_of session k).painters es refl (few k (omega arith)) shifts (legal.journal.merges k (omega arith))))
    ∙ sym (map-append (with_motif session.motifs) (plain_acts (take k session.shifts)) (acts_of_plan (plan_of session k)))
    ∙ ap (map (with_motif session.motifs)) (sym (plain_more session k (omega arith)) ∙ ap (λ n. plain_acts (take n session.shifts)) (add-one k))

-- with one painter in each shift the acts come in plain order
pub single_order : (session : Session) (log : RunLog) → Legal session log → ((j : ℕ) → j < length session.shifts → length (plan_of session j).painters ≤ 1)
    → map (named_act session) log.entries ≡ plain_order session
single_order session log legal few =
    let n : ℕ = length session.shifts in
    let all : All (λ (e : Entry). below n e ≡ true) log.entries =
    All_mono (λ (e : Entry). e.shift < n) (λ (e : Entry). below n e ≡ true) log.entries (λ e h. less e.shift n h) (All_unmap (λ (e : Entry). e.shift) log.entries (λ s. s < n) legal.journal.shifts.before) in
    ap (map (named_act session)) (sym (filter_all (below n) log.entries all)) ∙ all_below session log legal n (omega arith) few
    ∙ ap (λ (l : List ShiftPlan). with_motifs session.motifs (plain_acts l)) (take-length session.shifts)
