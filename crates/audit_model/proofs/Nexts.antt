-- What comes next in a legal log that goes on from a state.
use Rattle.std.proofs.Common.{◌≡◌, ◌≢◌, ◌⊎◌, inl, inr, ◌+◌, ◌<◌, ◌≤◌, ◌==◌, ℕ, zero, suc, Bool, true, false, cond, List, [], ◌∷◌, ◌++◌, length, length-append, get_or, map, fold, refl, sym, ap, subst, ◌∙◌, append_assoc, append-nil, arith}
use Rattle.std.proofs.lemmas.Bool.{cases_lt, cases_eq}
use Rattle.std.proofs.lemmas.List.{get_or-append-add, get_or_append_left, map-append, length-map}
use Rattle.std.proofs.lemmas.List.Elements.{filter-append}
use Rattle.std.proofs.lemmas.List.Sums.{fold-append, sum_by-append, sum_by-cons}
use Rattle.std.proofs.lemmas.List.FromFn.{fill_by_all, get_or-range_with_len, length-range_with_len}
use Rattle.std.proofs.lemmas.Option.{slice_get-get_or}
use Rattle.std.specs.Prelude.{All, count_by, filter, slice_index}
use Rattle.std.specs.List.{range_with_len}
use Rattle.std.specs.List.Sorted.{IsNonDecreasing}
use Rattle.shift_model.proofs.lemmas.Lists.{All_mono, count_all, count_none, filter_all, filter_none, kept}
use Rattle.audit_model.proofs.Adding.{accepted_append, accepted_none, journal_versions, versions_more}
use Rattle.version_journal.specs.declared.entry.Entry.{Entry}
use Rattle.version_journal.specs.declared.entry.Reply.{Reply}
use Rattle.version_journal.specs.declared.run_log.Repeat.{Repeat}
use Rattle.version_journal.specs.declared.run_log.RunLog.{RunLog}
use Rattle.mill_base.specs.declared.face.Face.{Face}
use Rattle.point_paper.specs.Papers.{PaperCells}
use Rattle.draft_model.specs.declared.design.Design.{Design}
use Rattle.loom_threads.specs.Woven.{IsWoven}
use Rattle.session_file.specs.declared.session.Session.{Session}
use Rattle.version_journal.specs.Journals.{ActWithMotif, History, begun, history, replies, step, versions}
use Rattle.shift_model.specs.Plans.{plan_of}
use Rattle.shift_model.specs.Logs.{IsCurrent, IsJournal, Legal, Merge, accepted_before, entries_of_shift, named_act, numbers_of_painter}
use Rattle.audit_model.specs.Audits.{Begins}
use Rattle.audit_model.specs.States.{ActsDone, AllDone, CanDo, CanWeave, Can, Extends, Move, Part, State, WovenBelow, done_of, entries_of, face_of, go, log_of, named_acts, painters_of, repeats_of, reply_to, stated_acts, stated_repeats, versions_of, woven_of}
use Rattle.audit_model.specs.States.Move.{Do, Weave, Begin, End}
use Rattle.audit_model.proofs.Basics.{is_other, is_same}
use Rattle.audit_model.proofs.Growing.{begun_repeats, old_entries, old_repeats, woven_here, woven_there}
use Rattle.audit_model.proofs.Keeping.{journal_whole, replies_more, reply_adds}

-- the item at a seam
pub at_seam : {X : Type 0} (xs : List X) (x : X) (ys : List X) (d : X) → get_or (xs ++ x ∷ ys) (length xs) d ≡ x
at_seam [] x ys d = refl
at_seam (y ∷ xs) x ys d = at_seam xs x ys d

seam_all : {X : Type 0} (P : X → Type 0) (xs : List X) (x : X) (ys : List X) → All P (xs ++ x ∷ ys) → P x
seam_all P xs x ys all = subst P (at_seam xs x ys x) (all (length xs) x (omega (arith, length-append xs (x ∷ ys))))

seam_same : {X : Type 0} (xs : List X) (a b : X) (us vs : List X) → xs ++ a ∷ us ≡ xs ++ b ∷ vs → a ≡ b
seam_same xs a b us vs e = sym (at_seam xs a us a) ∙ ap (λ l. get_or l (length xs) a) e ∙ at_seam xs b vs a

seam_filter : {X : Type 0} (p : X → Bool) (xs : List X) (x : X) (ys : List X) → p x ≡ true → filter p (xs ++ x ∷ ys) ≡ filter p xs ++ x ∷ filter p ys
seam_filter p xs x ys h = filter-append p xs (x ∷ ys) ∙ ap (λ b. filter p xs ++ cond b (x ∷ filter p ys) (filter p ys)) h

map_at : {X : Type 0} (f : X → ℕ) (xs : List X) (k : ℕ) (d : X) → get_or (map f xs) k (f d) ≡ f (get_or xs k d)
map_at f [] k d = refl
map_at f (x ∷ xs) zero d = refl
map_at f (x ∷ xs) (suc k) d = map_at f xs k d

behind : {X : Type 0} (f : X → ℕ) (xs : List X) (y : X) (ys : List X) → IsNonDecreasing (map f (xs ++ y ∷ ys)) → All (λ z. f y ≤ f z) (y ∷ ys)
behind f xs y ys rise k d h = omega (
  arith,
  rise (length xs) (length xs + k) (f d) (omega arith) (omega (arith, h, length-map (xs ++ y ∷ ys) f, length-append xs (y ∷ ys))),
  map_at f (xs ++ y ∷ ys) (length xs) d,
  map_at f (xs ++ y ∷ ys) (length xs + k) d,
  ap f (at_seam xs y ys d),
  ap f (get_or-append-add xs (y ∷ ys) k d),
)

ahead : {X : Type 0} (f : X → ℕ) (xs : List X) (y : X) (ys : List X) → IsNonDecreasing (map f (xs ++ y ∷ ys)) → All (λ x. f x ≤ f y) xs
ahead f xs y ys rise k d h = omega (
  arith,
  rise k (length xs) (f d) (omega (arith, h)) (omega (arith, length-map (xs ++ y ∷ ys) f, length-append xs (y ∷ ys))),
  map_at f (xs ++ y ∷ ys) k d,
  map_at f (xs ++ y ∷ ys) (length xs) d,
  ap f (at_seam xs y ys d),
  ap f (get_or_append_left xs (y ∷ ys) d k h),
)

All_right : {X : Type 0} (P : X → Type 0) (xs ys : List X) → All P (xs ++ ys) → All P ys
All_right P xs ys all k d h = subst P (get_or-append-add xs ys k d) (all (length xs + k) d (omega (arith, h, length-append xs ys)))

-- two counts of which the one is at most the other are the same, or there is a first place where they differ
pub compare : (n : ℕ) (f g : ℕ → ℕ) → ((i : ℕ) → i < n → f i ≤ g i) → ((i : ℕ) → i < n → f i ≡ g i) ⊎ ((i : ℕ) × (i < n) × (f i < g i) × ((j : ℕ) → j < i → f j ≡ g j))
compare zero f g h = inl (λ i l. absurd (omega arith))
compare (suc n) f g h = by (compare n f g (λ i l. h i (omega arith))) where
  by : (((i : ℕ) → i < n → f i ≡ g i) ⊎ ((i : ℕ) × (i < n) × (f i < g i) × ((j : ℕ) → j < i → f j ≡ g j)))
      → ((i : ℕ) → i < suc n → f i ≡ g i) ⊎ ((i : ℕ) × (i < suc n) × (f i < g i) × ((j : ℕ) → j < i → f j ≡ g j))
  by (inr (i, l, less, same)) = inr (i, omega arith, less, same)
  by (inl same) = last (cases_lt (f n) (g n)) where
    last : (f n < g n) ⊎ (g n ≤ f n) → ((i : ℕ) → i < suc n → f i ≡ g i) ⊎ ((i : ℕ) × (i < suc n) × (f i < g i) × ((j : ℕ) → j < i → f j ≡ g j))
    last (inl less) = inr (n, omega arith, less, same)
    last (inr more) = inl (λ i l. each i l (cases_lt i n)) where
      each : (i : ℕ) → i < suc n → (i < n) ⊎ (n ≤ i) → f i ≡ g i
      each i l (inl low) = same i low
      each i l (inr high) = subst (λ m. f m ≡ g m) (let e : n ≡ i = omega arith in e) (let e : f n ≡ g n = omega (arith, more, h n (omega arith)) in e)

pub acts_left : (session : Session) (s : State) → Part session s → ActsDone session s ⊎ ((i : ℕ) × (i < painters_of session s) × (done_of s i < stated_acts session s i))
acts_left session s p = by (compare (painters_of session s) (done_of s) (stated_acts session s) p.merges.few) where
  by : (((i : ℕ) → i < painters_of session s → done_of s i ≡ stated_acts session s i) ⊎ ((i : ℕ) × (i < painters_of session s) × (done_of s i < stated_acts session s i) × ((j : ℕ) → j < i → done_of s j ≡ stated_acts session s j)))
      → ActsDone session s ⊎ ((i : ℕ) × (i < painters_of session s) × (done_of s i < stated_acts session s i))
  by (inl all) = inl (record { each = all })
  by (inr (i, h, less, same)) = inr (i, h, less)

pub repeats_left : (session : Session) (s : State) → Part session s → WovenBelow session s session.looms ⊎ ((i : ℕ) × (i < session.looms) × (length (woven_of s i) < stated_repeats session s i) × WovenBelow session s i)
repeats_left session s p = by (compare session.looms (λ i. length (woven_of s i)) (stated_repeats session s) (λ i h. (p.repeats i h).few)) where
  by : (((i : ℕ) → i < session.looms → length (woven_of s i) ≡ stated_repeats session s i) ⊎ ((i : ℕ) × (i < session.looms) × (length (woven_of s i) < stated_repeats session s i) × ((j : ℕ) → j < i → length (woven_of s j) ≡ stated_repeats session s j)))
      → WovenBelow session s session.looms ⊎ ((i : ℕ) × (i < session.looms) × (length (woven_of s i) < stated_repeats session s i) × WovenBelow session s i)
  by (inl all) = inl (record { each = all })
  by (inr (i, h, less, same)) = inr (i, h, less, record { each = same })

-- behind the whole acts of the shifts below m comes an act of a later one
later_entry : (session : Session) (n m : ℕ) (es : List Entry) (e : Entry) (rest : List Entry) → IsJournal session (es ++ e ∷ rest) n
    → ((j : ℕ) → j < m → Merge (plan_of session j) (entries_of_shift j es)) → m ≤ e.shift
later_entry session n m es e rest j whole = by (cases_lt e.shift m) where
  by : (e.shift < m) ⊎ (m ≤ e.shift) → m ≤ e.shift
  by (inr h) = h
  by (inl h) =
      let before : e.shift < n = subst (λ x. x < n) (ap (λ x. x) refl) (seam_all (λ x. x < n) (map (λ (x : Entry). x.shift) es) e.shift (map (λ (x : Entry). x.shift) rest)
      (subst (λ (l : List ℕ). All (λ x. x < n) l) (map-append (λ (x : Entry). x.shift) es (e ∷ rest)) j.shifts.before)) in
      let here : entries_of_shift e.shift (es ++ e ∷ rest) ≡ entries_of_shift e.shift es ++ e ∷ entries_of_shift e.shift rest = seam_filter (λ (x : Entry). x.shift == e.shift) es e rest (is_same e.shift e.shift refl) in
      let merge : Merge (plan_of session e.shift) (entries_of_shift e.shift es ++ e ∷ entries_of_shift e.shift rest) = subst (λ (l : List Entry). Merge (plan_of session e.shift) l) here (j.merges e.shift before) in
      let painter : e.painter < length (plan_of session e.shift).painters = seam_all (λ (x : Entry). x.painter < length (plan_of session e.shift).painters) (entries_of_shift e.shift es) e (entries_of_shift e.shift rest) merge.painters in
      let old = (whole e.shift h).numbers e.painter painter in
      let new = merge.numbers e.painter painter in
      let parts : _ = ap (map (λ (x : Entry). x.number)) (seam_filter (λ (x : Entry). x.painter == e.painter) (entries_of_shift e.shift es) e (entries_of_shift e.shift rest) (is_same e.painter e.painter refl))
      ∙ map-append (λ (x : Entry). x.number) (filter (λ (x : Entry). x.painter == e.painter) (entries_of_shift e.shift es)) (e ∷ filter (λ (x : Entry). x.painter == e.painter) (entries_of_shift e.shift rest)) in
      absurd (omega (
        arith,
        ap length old,
        ap length new,
        ap length parts,
        length-append (numbers_of_painter e.painter (entries_of_shift e.shift es)) (e.number ∷ numbers_of_painter e.painter (entries_of_shift e.shift rest)),
      ))

-- the entries of a state, shift by shift
new_are : (session : Session) (s : State) → Part session s → entries_of_shift s.shift (entries_of s) ≡ s.new
new_are session s p =
    filter-append (λ (e : Entry). e.shift == s.shift) s.before.entries s.new
    ∙ ap (λ l. l ++ entries_of_shift s.shift s.new) (filter_none (λ (e : Entry). e.shift == s.shift) s.before.entries
    (All_mono (λ (e : Entry). e.shift < s.shift) (λ e. (e.shift == s.shift) ≡ false) s.before.entries (λ e h. is_other e.shift s.shift (λ (x : e.shift ≡ s.shift). omega arith)) (old_entries session s p)))
    ∙ filter_all (λ (e : Entry). e.shift == s.shift) s.new (All_mono (λ (e : Entry). e.shift ≡ s.shift) (λ e. (e.shift == s.shift) ≡ true) s.new (λ e h. is_same e.shift s.shift h) p.of_shift)

merges_below : (session : Session) (s : State) → Part session s → (j : ℕ) → j < s.shift → Merge (plan_of session j) (entries_of_shift j (entries_of s))
merges_below session s p j h = subst (λ (l : List Entry). Merge (plan_of session j) l) (sym (
    filter-append (λ (e : Entry). e.shift == j) s.before.entries s.new
    ∙ ap (λ l. entries_of_shift j s.before.entries ++ l) (filter_none (λ (e : Entry). e.shift == j) s.new
    (All_mono (λ (e : Entry). e.shift ≡ s.shift) (λ e. (e.shift == j) ≡ false) s.new (λ e x. is_other e.shift j (λ (y : e.shift ≡ j). omega (arith, x, y, h))) p.of_shift))
    ∙ append-nil (entries_of_shift j s.before.entries))) (p.legal.journal.merges j h)

replies_grow : (design : Design) (h : History) (acts : List ActWithMotif) → (rest : List Reply) × ((fold (step design) h acts).replies ≡ h.replies ++ rest)
replies_grow design h [] = ([], sym (append-nil h.replies))
replies_grow design h (act ∷ acts) =
    let more = replies_grow design (step design h act) acts in
    ((reply_to design h act ∷ []) ++ more.0, more.1 ∙ ap (λ l. l ++ more.0) (reply_adds design h act) ∙ append_assoc h.replies (reply_to design h act ∷ []) more.0)

-- the reply behind a journal's
next_reply : (session : Session) (es : List Entry) (e : Entry) (rest : List Entry) (n : ℕ) → map (λ (x : Entry). x.reply) es ≡ replies session.design session.opening (named_acts session es)
    → IsJournal session (es ++ e ∷ rest) n → e.reply ≡ reply_to session.design (history session.design session.opening (named_acts session es)) (named_act session e)
next_reply session es e rest n replied j =
    let r = reply_to session.design (history session.design session.opening (named_acts session es)) (named_act session e) in
    let grown = replies_grow session.design (history session.design session.opening (named_acts session (es ++ e ∷ []))) (named_acts session rest) in
    let all : replies session.design session.opening (named_acts session (es ++ e ∷ rest)) ≡ (map (λ (x : Entry). x.reply) es ++ r ∷ []) ++ grown.0 =
    ap (λ l. replies session.design session.opening (named_acts session l)) (sym (append_assoc es (e ∷ []) rest))
    ∙ ap (λ l. (fold (step session.design) (begun session.opening) l).replies) (map-append (named_act session) (es ++ e ∷ []) rest)
    ∙ ap (λ (h : History). h.replies) (fold-append (step session.design) (begun session.opening) (named_acts session (es ++ e ∷ [])) (named_acts session rest)) ∙ grown.1
    ∙ ap (λ l. l ++ grown.0) (replies_more session es e ∙ ap (λ l. l ++ r ∷ []) (sym replied)) in
    seam_same (map (λ (x : Entry). x.reply) es) e.reply r (map (λ (x : Entry). x.reply) rest) grown.0
    (sym (map-append (λ (x : Entry). x.reply) es (e ∷ rest)) ∙ j.replied ∙ all ∙ append_assoc (map (λ (x : Entry). x.reply) es) (r ∷ []) grown.0)

-- where acts are missing, the legal log goes on with one of them
next_do : (session : Session) (s : State) (log : RunLog) (i : ℕ) (rest : List Entry) → Part session s → s.ended ≡ false → Legal session log → Extends session s log → i < painters_of session s
    → done_of s i < stated_acts session s i → log.entries ≡ entries_of s ++ rest → (e : Entry) × CanDo session s e × Extends session (go session s (Do e)) log
next_do session s log i [] p going legal x h less is =
    let same : entries_of_shift s.shift log.entries ≡ s.new = ap (entries_of_shift s.shift) (is ∙ append-nil (entries_of s)) ∙ new_are session s p in
    let merge : Merge (plan_of session s.shift) s.new = subst (λ (l : List Entry). Merge (plan_of session s.shift) l) same (legal.journal.merges s.shift p.within) in
    absurd (omega (arith, less, ap length (merge.numbers i h), length-range_with_len 1 (stated_acts session s i)))
next_do session s log i (e ∷ rest) p going legal x h less is = by (cases_lt s.shift e.shift) where
  j : IsJournal session (entries_of s ++ e ∷ rest) (length session.shifts)
  j = subst (λ (l : List Entry). IsJournal session l (length session.shifts)) is legal.journal

  not_below : s.shift ≤ e.shift
  not_below = later_entry session (length session.shifts) s.shift (entries_of s) e rest j (merges_below session s p)

  by : (s.shift < e.shift) ⊎ (e.shift ≤ s.shift) → (e : Entry) × CanDo session s e × Extends session (go session s (Do e)) log
  by (inl above) =
      let behind_all = behind (λ (y : Entry). y.shift) (entries_of s) e rest j.shifts.order in
      let none : entries_of_shift s.shift (e ∷ rest) ≡ [] = filter_none (λ (y : Entry). y.shift == s.shift) (e ∷ rest)
      (All_mono (λ (y : Entry). e.shift ≤ y.shift) (λ y. (y.shift == s.shift) ≡ false) (e ∷ rest) (λ y l. is_other y.shift s.shift (λ (z : y.shift ≡ s.shift). omega (arith, z, l, above))) behind_all) in
      let same : entries_of_shift s.shift (entries_of s ++ e ∷ rest) ≡ s.new =
      filter-append (λ (y : Entry). y.shift == s.shift) (entries_of s) (e ∷ rest) ∙ ap (λ l. entries_of_shift s.shift (entries_of s) ++ l) none ∙ append-nil (entries_of_shift s.shift (entries_of s)) ∙ new_are session s p in
      let merge : Merge (plan_of session s.shift) s.new = subst (λ (l : List Entry). Merge (plan_of session s.shift) l) same (j.merges s.shift p.within) in
      absurd (omega (arith, less, ap length (merge.numbers i h), length-range_with_len 1 (stated_acts session s i)))
  by (inr low) =
      let at : e.shift ≡ s.shift = omega (arith, not_below, low) in
      let same : entries_of_shift s.shift (entries_of s ++ e ∷ rest) ≡ s.new ++ e ∷ entries_of_shift s.shift rest =
      seam_filter (λ (y : Entry). y.shift == s.shift) (entries_of s) e rest (is_same e.shift s.shift at) ∙ ap (λ l. l ++ e ∷ entries_of_shift s.shift rest) (new_are session s p) in
      let merge : Merge (plan_of session s.shift) (s.new ++ e ∷ entries_of_shift s.shift rest) = subst (λ (l : List Entry). Merge (plan_of session s.shift) l) same (j.merges s.shift p.within) in
      let painter : e.painter < painters_of session s = seam_all (λ (y : Entry). y.painter < painters_of session s) s.new e (entries_of_shift s.shift rest) merge.painters in
      let more = numbers_of_painter e.painter (entries_of_shift s.shift rest) in
      let numbers : numbers_of_painter e.painter s.new ++ e.number ∷ more ≡ range_with_len 1 (stated_acts session s e.painter) =
      sym (ap (map (λ (y : Entry). y.number)) (seam_filter (λ (y : Entry). y.painter == e.painter) s.new e (entries_of_shift s.shift rest) (is_same e.painter e.painter refl))
      ∙ map-append (λ (y : Entry). y.number) (filter (λ (y : Entry). y.painter == e.painter) s.new) (e ∷ filter (λ (y : Entry). y.painter == e.painter) (entries_of_shift s.shift rest))) ∙ merge.numbers e.painter painter in
      let left : done_of s e.painter < stated_acts session s e.painter =
      omega (arith, ap length numbers, length-range_with_len 1 (stated_acts session s e.painter), length-append (numbers_of_painter e.painter s.new) (e.number ∷ more)) in
      let number : e.number ≡ 1 + done_of s e.painter =
      sym (at_seam (numbers_of_painter e.painter s.new) e.number more 0) ∙ ap (λ l. get_or l (done_of s e.painter) 0) numbers ∙ get_or-range_with_len 1 (stated_acts session s e.painter) (done_of s e.painter) 0 left in (
        e,
        record { going = going; shift = at; painter = painter; number = omega (arith, number); left = left; reply = next_reply session (entries_of s) e rest (length session.shifts) p.replied j },
        record {
          entries = (rest, is ∙ sym (append_assoc (entries_of s) (e ∷ []) rest) ∙ ap (λ l. l ++ rest) (append_assoc s.before.entries s.new (e ∷ [])));
          repeats = x.repeats;
        },
      )

-- the merges of all shifts up to this one, once its acts are done
merges_until : (session : Session) (s : State) → Part session s → ActsDone session s → (j : ℕ) → j < s.shift + 1 → Merge (plan_of session j) (entries_of_shift j (entries_of s))
merges_until session s p acts j h = (journal_whole session s p acts).merges j h

-- behind the acts of a shift that is done come later ones
later_entries : (session : Session) (s : State) (n : ℕ) (rest : List Entry) → Part session s → ActsDone session s → IsJournal session (entries_of s ++ rest) n → All (λ e. s.shift + 1 ≤ e.shift) rest
later_entries session s n [] p acts j = λ k d h. absurd (omega arith)
later_entries session s n (e ∷ rest) p acts j =
    All_mono (λ (y : Entry). e.shift ≤ y.shift) (λ y. s.shift + 1 ≤ y.shift) (e ∷ rest) (λ y l. omega (arith, l, later_entry session n (s.shift + 1) (entries_of s) e rest j (merges_until session s p acts)))
    (behind (λ (y : Entry). y.shift) (entries_of s) e rest j.shifts.order)

count_here : (k : ℕ) (rs : List Repeat) → All (λ r. r.shift ≡ k) rs → count_by (λ r. r.shift == k) rs ≡ length rs
count_here k rs all = count_all (λ (r : Repeat). r.shift == k) rs (All_mono (λ (r : Repeat). r.shift ≡ k) (λ r. (r.shift == k) ≡ true) rs (λ r h. is_same r.shift k h) all)

count_elsewhere : (k : ℕ) (rs : List Repeat) → All (λ r. r.shift ≢ k) rs → count_by (λ r. r.shift == k) rs ≡ 0
count_elsewhere k rs all = count_none (λ (r : Repeat). r.shift == k) rs (All_mono (λ (r : Repeat). r.shift ≢ k) (λ r. (r.shift == k) ≡ false) rs (λ r h. is_other r.shift k h) all)

count_both : (k : ℕ) (xs ys : List Repeat) → count_by (λ r. r.shift == k) (xs ++ ys) ≡ count_by (λ r. r.shift == k) xs + count_by (λ r. r.shift == k) ys
count_both k xs ys = sum_by-append (λ (r : Repeat). cond (r.shift == k) 1 0) xs ys

count_of_state : (session : Session) (s : State) (loom : ℕ) → Part session s → loom < session.looms → count_by (λ r. r.shift == s.shift) (repeats_of s loom) ≡ length (woven_of s loom)
count_of_state session s loom p h = omega (
  arith,
  count_both s.shift (get_or s.before.looms loom []) (woven_of s loom),
  count_elsewhere s.shift (get_or s.before.looms loom []) (All_mono (λ (r : Repeat). r.shift < s.shift) (λ r. r.shift ≢ s.shift) (get_or s.before.looms loom []) (λ r l e. omega arith) (old_repeats session s p loom h)),
  count_here s.shift (woven_of s loom) (p.repeats loom h).of_shift,
)

count_below : (session : Session) (s : State) (loom j : ℕ) → Part session s → loom < session.looms → j < s.shift → count_by (λ r. r.shift == j) (repeats_of s loom) ≡ slice_index (plan_of session j).repeats loom
count_below session s loom j p h l = omega (
  arith,
  count_both j (get_or s.before.looms loom []) (woven_of s loom),
  count_elsewhere j (woven_of s loom) (All_mono (λ (r : Repeat). r.shift ≡ s.shift) (λ r. r.shift ≢ j) (woven_of s loom) (λ r x e. omega (arith, x, e, l)) (p.repeats loom h).of_shift),
  (p.legal.repeats loom h).counts j l,
)

-- behind the whole repeats of the shifts below m comes one of a later shift
later_repeat : (n m stated : ℕ) (rs : List Repeat) (r : Repeat) (rest : List Repeat) (counts : ℕ → ℕ) → r.shift < n → ((j : ℕ) → j < n → count_by (λ x. x.shift == j) (rs ++ r ∷ rest) ≡ counts j)
    → ((j : ℕ) → j < m → count_by (λ x. x.shift == j) rs ≡ counts j) → m ≤ r.shift
later_repeat n m stated rs r rest counts below all whole = by (cases_lt r.shift m) where
  by : (r.shift < m) ⊎ (m ≤ r.shift) → m ≤ r.shift
  by (inr h) = h
  by (inl h) =
      let first : ◌≡◌ {A = ℕ} (cond (r.shift == r.shift) 1 0) 1 = ap (λ b. cond b 1 0) (is_same r.shift r.shift refl) in
      absurd (omega (arith, all r.shift below, whole r.shift h, count_both r.shift rs (r ∷ rest), sum_by-cons (λ (x : Repeat). cond (x.shift == r.shift) 1 0) r rest, first))

-- a version that is among the first is the same among all
same_version : (design : Design) (shown : Bool) (face : Face) (papers more : List PaperCells) (r : Repeat) → r.version < length papers → IsWoven design shown face (papers ++ more) r
    → IsWoven design shown face papers r
same_version design shown face papers more r h w =
    let here = slice_get-get_or papers r.version w.paper h in record {
      paper = w.paper;
      version = here ∙ sym (kept papers more r.version (get_or papers r.version w.paper) here) ∙ w.version;
      digest = w.digest;
      rows = w.rows;
    }

-- where repeats are missing, the legal log goes on with one of them
next_weave : (session : Session) (s : State) (log : RunLog) (i : ℕ) (later : List Entry) (rest : List Repeat) → Part session s → s.ended ≡ false → Legal session log → Extends session s log → ActsDone session s
    → i < session.looms → length (woven_of s i) < stated_repeats session s i → WovenBelow session s i → log.entries ≡ entries_of s ++ later → get_or log.looms i [] ≡ repeats_of s i ++ rest
    → (r : Repeat) × CanWeave session s i r × Extends session (go session s (Weave i r)) log
next_weave session s log i later [] p going legal x acts h less below es is =
    absurd (omega (arith, less, (legal.repeats i h).counts s.shift p.within, ap (count_by (λ (r : Repeat). r.shift == s.shift)) (is ∙ append-nil (repeats_of s i)), count_of_state session s i p h))
next_weave session s log i later (r ∷ rest) p going legal x acts h less below es is = by (cases_lt s.shift r.shift) where
  parts : All (λ n. n < length session.shifts) (map (λ (y : Repeat). y.shift) (repeats_of s i ++ r ∷ rest))
  parts = subst (λ (l : List Repeat). All (λ n. n < length session.shifts) (map (λ (y : Repeat). y.shift) l)) is (legal.repeats i h).shifts.before

  counts : (j : ℕ) → j < length session.shifts → count_by (λ y. y.shift == j) (repeats_of s i ++ r ∷ rest) ≡ slice_index (plan_of session j).repeats i
  counts j l = ap (count_by (λ (y : Repeat). y.shift == j)) (sym is) ∙ (legal.repeats i h).counts j l

  order : IsNonDecreasing (map (λ (y : Repeat). y.shift) (repeats_of s i ++ r ∷ rest))
  order = subst (λ (l : List Repeat). IsNonDecreasing (map (λ (y : Repeat). y.shift) l)) is (legal.repeats i h).shifts.order

  within : r.shift < length session.shifts
  within = seam_all (λ n. n < length session.shifts) (map (λ (y : Repeat). y.shift) (repeats_of s i)) r.shift (map (λ (y : Repeat). y.shift) rest)
      (subst (λ (l : List ℕ). All (λ n. n < length session.shifts) l) (map-append (λ (y : Repeat). y.shift) (repeats_of s i) (r ∷ rest)) parts)

  not_below : s.shift ≤ r.shift
  not_below = later_repeat (length session.shifts) s.shift 0 (repeats_of s i) r rest (λ j. slice_index (plan_of session j).repeats i) within counts (λ j l. count_below session s i j p h l)

  journal : IsJournal session (entries_of s ++ later) (length session.shifts)
  journal = subst (λ (l : List Entry). IsJournal session l (length session.shifts)) es legal.journal

  -- what comes later changes no count of the commits so far
  accepted : (m : ℕ) → m ≤ s.shift + 1 → accepted_before m log.entries ≡ accepted_before m (entries_of s)
  accepted m l = omega (
    arith,
    ap (accepted_before m) es,
    accepted_append m (entries_of s) later,
    accepted_none m later (All_mono (λ (e : Entry). s.shift + 1 ≤ e.shift) (λ e. m ≤ e.shift) later (λ e y. omega (arith, y, l)) (later_entries session s (length session.shifts) later p acts journal)),
  )

  by : (s.shift < r.shift) ⊎ (r.shift ≤ s.shift) → (r : Repeat) × CanWeave session s i r × Extends session (go session s (Weave i r)) log
  by (inl above) =
      absurd (omega (
        arith,
        less,
        counts s.shift p.within,
        count_both s.shift (repeats_of s i) (r ∷ rest),
        count_of_state session s i p h,
        count_elsewhere s.shift (r ∷ rest) (All_mono (λ (y : Repeat). r.shift ≤ y.shift) (λ y. y.shift ≢ s.shift) (r ∷ rest) (λ y l e. omega (arith, l, above, e)) (behind (λ (y : Repeat). y.shift) (repeats_of s i) r rest order)),
      ))
  by (inr low) =
      let at : r.shift ≡ s.shift = omega (arith, not_below, low) in
      let current : IsCurrent log.entries r = seam_all (IsCurrent log.entries) (repeats_of s i) r rest (subst (λ (l : List Repeat). All (IsCurrent log.entries) l) is (legal.repeats i h).current) in
      let no_newer : r.version ≤ accepted_before (s.shift + 1) (entries_of s) = omega (arith, subst (λ n. r.version ≤ accepted_before (n + 1) log.entries) at current.no_newer, accepted (s.shift + 1) (omega arith)) in
      let more = versions_more session (entries_of s) later in
      let vs = versions session.design session.opening (named_acts session log.entries) in
      let face = face_of session i in
      let is_woven : IsWoven session.design session.show_rows face vs r =
      seam_all (IsWoven session.design session.show_rows face vs) (repeats_of s i) r rest (subst (λ (l : List Repeat). All (IsWoven session.design session.show_rows face vs) l) is (legal.repeats i h).woven) in
      let woven : IsWoven session.design session.show_rows face (versions_of session s ++ more.0) r = subst (λ (v : List PaperCells). IsWoven session.design session.show_rows face v r) (ap (λ l. versions session.design session.opening (named_acts session l)) es ∙ more.1) is_woven in
      let risen = ahead (λ (y : Repeat). y.version) (repeats_of s i) r rest (subst (λ (l : List Repeat). IsNonDecreasing (map (λ (y : Repeat). y.version) l)) is (legal.repeats i h).versions_rise) in (
        r,
        record {
          going = going;
          acts = acts;
          below = below;
          there = h;
          left = less;
          shift = at;
          no_older = omega (arith, subst (λ n. accepted_before n log.entries ≤ r.version) at current.no_older, accepted s.shift (omega arith));
          no_newer = no_newer;
          rises = All_right (λ (y : Repeat). y.version ≤ r.version) (get_or s.before.looms i []) (woven_of s i) risen;
          is = same_version session.design session.show_rows face (versions_of session s) more.0 r (omega (arith, no_newer, journal_versions session (entries_of s) (s.shift + 1) (journal_whole session s p acts))) woven;
        },
        record { entries = x.entries; repeats = λ j l. goes_on j l (cases_eq j i) },
      ) where
        goes_on : (j : ℕ) → j < session.looms → (j ≡ i) ⊎ (j ≢ i) → Begins (repeats_of (go session s (Weave i r)) j) (get_or log.looms j [])
        goes_on j l (inr other) = subst (λ (b : List Repeat). Begins b (get_or log.looms j [])) (sym (woven_there session s i j r other)) (x.repeats j l)
        goes_on j l (inl same) = subst (λ m. Begins (repeats_of (go session s (Weave i r)) m) (get_or log.looms m [])) (sym same)
            (rest, is ∙ sym (append_assoc (repeats_of s i) (r ∷ []) rest) ∙ ap (λ b. b ++ rest) (sym (woven_here session s p i r h)))

-- the next move of a legal log
pub next : (session : Session) (s : State) (log : RunLog) → Part session s → s.ended ≡ false → Legal session log → Extends session s log
    → (m : Move) × Can session s m × Extends session (go session s m) log
next session s log p going legal x = by (acts_left session s p) where
  last : AllDone session s → (s.shift + 1 < length session.shifts) ⊎ (length session.shifts ≤ s.shift + 1) → (m : Move) × Can session s m × Extends session (go session s m) log
  last done (inl more) = (
    Begin,
    record { going = going; done = done; more = more },
    record {
      entries = subst (λ (b : List Entry). Begins b log.entries) (sym (append-nil (entries_of s))) x.entries;
      repeats = λ j l. subst (λ (b : List Repeat). Begins b (get_or log.looms j [])) (sym (begun_repeats session s j l)) (x.repeats j l);
    },
  )
  last done (inr none) = (End, record { going = going; done = done; last = omega (arith, none, p.within) }, record { entries = x.entries; repeats = x.repeats })

  then : ActsDone session s → WovenBelow session s session.looms ⊎ ((i : ℕ) × (i < session.looms) × (length (woven_of s i) < stated_repeats session s i) × WovenBelow session s i)
      → (m : Move) × Can session s m × Extends session (go session s m) log
  then acts (inl all) = last (record { acts = acts; repeats = all }) (cases_lt (s.shift + 1) (length session.shifts))
  then acts (inr (i, h, less, below)) =
      let found = next_weave session s log i x.entries.0 (x.repeats i h).0 p going legal x acts h less below x.entries.1 (x.repeats i h).1 in
      (Weave i found.0, found.1, found.2)

  by : ActsDone session s ⊎ ((i : ℕ) × (i < painters_of session s) × (done_of s i < stated_acts session s i)) → (m : Move) × Can session s m × Extends session (go session s m) log
  by (inl acts) = then acts (repeats_left session s p)
  by (inr (i, h, less)) =
      let found = next_do session s log i x.entries.0 p going legal x h less x.entries.1 in
      (Do found.0, found.1, found.2)

-- where the state has ended, the log is its log
pub ended_same : (session : Session) (s : State) (log : RunLog) → Part session s → s.ended ≡ true → Legal session log → Extends session s log → log ≡ log_of session s
ended_same session s log p ended legal x =
    ap (λ (l : List Entry). the_log l log.looms) (x.entries.1 ∙ ap (λ l. entries_of s ++ l) (no_entry x.entries.0 x.entries.1) ∙ append-nil (entries_of s))
    ∙ ap (λ (l : List (List Repeat)). the_log (entries_of s) l) (fill_by_all (repeats_of s) log.looms session.looms [] legal.looms
    (λ i h. (x.repeats i h).1 ∙ ap (λ l. repeats_of s i ++ l) (no_repeat i h (x.repeats i h).0 (x.repeats i h).1) ∙ append-nil (repeats_of s i))) where
      the_log : List Entry → List (List Repeat) → RunLog
      the_log es ls = record { entries = es; looms = ls }

      done : AllDone session s
      done = (p.ended ended).0

      no_entry : (rest : List Entry) → log.entries ≡ entries_of s ++ rest → rest ≡ []
      no_entry [] is = refl
      no_entry (e ∷ rest) is =
          let j : IsJournal session (entries_of s ++ e ∷ rest) (length session.shifts) = subst (λ (l : List Entry). IsJournal session l (length session.shifts)) is legal.journal in
          let late = later_entry session (length session.shifts) (s.shift + 1) (entries_of s) e rest j (merges_until session s p done.acts) in
          let early : e.shift < length session.shifts = seam_all (λ n. n < length session.shifts) (map (λ (y : Entry). y.shift) (entries_of s)) e.shift (map (λ (y : Entry). y.shift) rest)
          (subst (λ (l : List ℕ). All (λ n. n < length session.shifts) l) (map-append (λ (y : Entry). y.shift) (entries_of s) (e ∷ rest)) j.shifts.before) in
          absurd (omega (arith, late, early, (p.ended ended).1))

      no_repeat : (i : ℕ) → i < session.looms → (rest : List Repeat) → get_or log.looms i [] ≡ repeats_of s i ++ rest → rest ≡ []
      no_repeat i h [] is = refl
      no_repeat i h (r ∷ rest) is =
          let early : r.shift < length session.shifts = seam_all (λ n. n < length session.shifts) (map (λ (y : Repeat). y.shift) (repeats_of s i)) r.shift (map (λ (y : Repeat). y.shift) rest)
          (subst (λ (l : List ℕ). All (λ n. n < length session.shifts) l) (map-append (λ (y : Repeat). y.shift) (repeats_of s i) (r ∷ rest))
          (subst (λ (l : List Repeat). All (λ n. n < length session.shifts) (map (λ (y : Repeat). y.shift) l)) is (legal.repeats i h).shifts.before)) in
          let late = later_repeat (length session.shifts) (s.shift + 1) 0 (repeats_of s i) r rest (λ j. slice_index (plan_of session j).repeats i) early
          (λ j l. ap (count_by (λ (y : Repeat). y.shift == j)) (sym is) ∙ (legal.repeats i h).counts j l) (λ j l. until i h j (cases_lt j s.shift) l) in
          absurd (omega (arith, late, early, (p.ended ended).1)) where
            until : (i : ℕ) → i < session.looms → (j : ℕ) → (j < s.shift) ⊎ (s.shift ≤ j) → j < s.shift + 1 → count_by (λ y. y.shift == j) (repeats_of s i) ≡ slice_index (plan_of session j).repeats i
            until i h j (inl low) l = count_below session s i j p h low
            until i h j (inr high) l = subst (λ n. count_by (λ y. y.shift == n) (repeats_of s i) ≡ slice_index (plan_of session n).repeats i) (let e : s.shift ≡ j = omega arith in e)
                (count_of_state session s i p h ∙ done.repeats.each i h)
