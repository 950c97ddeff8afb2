-- Each part of a legal log can be finished.
use Rattle.std.proofs.Common.{◌≡◌, ◌⊎◌, inl, inr, ◌+◌, ◌-◌, ◌<◌, ◌≤◌, ℕ, zero, suc, Bool, true, false, cond, [], ◌∷◌, ◌++◌, length, length-append, get_or, refl, sym, ap, subst, ◌∙◌, append_assoc, append-nil, arith}
use Rattle.std.proofs.lemmas.Bool.{cases_lt}
use Rattle.std.proofs.lemmas.List.{get_or-set_same, get_or-set_other}
use Rattle.std.proofs.lemmas.Option.{slice_get-get_or}
use Rattle.audit_model.proofs.Adding.{accepted_rises, journal_versions}
use Rattle.version_journal.specs.declared.entry.Entry.{Entry}
use Rattle.version_journal.specs.declared.run_log.Repeat.{Repeat}
use Rattle.version_journal.specs.declared.entry.Reply.TheVariants.{Painted}
use Rattle.session_file.specs.declared.session.Session.{Session}
use Rattle.loom_threads.specs.Woven.{lifted, repeat_of}
use Rattle.shift_model.specs.Plans.{plan_of}
use Rattle.shift_model.specs.Logs.{Legal, LegalBefore, accepted_before, named_act, numbers_of_painter}
use Rattle.report_text.specs.Reports.{report}
use Rattle.audit_model.specs.Lines.{end_line, report_of_shifts}
use Rattle.audit_model.specs.Audits.{Passes, joined}
use Rattle.audit_model.specs.States.{ActsDone, AllDone, CanBegin, CanDo, CanEnd, CanWeave, Can, Move, Part, State, WovenBelow, done_of, entries_of, face_of, go, history_of, line, log_of, more_lines, painters_of, reply_to, stated_acts, stated_repeats, text, versions_of, woven_of}
use Rattle.audit_model.specs.States.Move.{Do, Weave, Begin, End}
use Rattle.audit_model.proofs.Growing.{report_is, text_grows}
use Rattle.audit_model.proofs.Keeping.{journal_whole, numbers_other, numbers_same, part_kept, whole}

pub back : (session : Session) (s : State) (m : Move) → Part session s → Can session s m → Passes session (text session (go session s m)) → Passes session (text session s)
back session s m p c (log, legal, (rest, is)) = (
  log,
  legal,
  (
    (line session s m ++ joined (more_lines m)) ++ rest,
    is ∙ ap (λ l. l ++ rest) (text_grows session s m p c) ∙ append_assoc (text session s) (line session s m ++ joined (more_lines m)) rest,
  ),
)

-- what has ended is the report of its log
pub ended_legal : (session : Session) (s : State) → Part session s → s.ended ≡ true → Legal session (log_of session s)
ended_legal session s p t = subst (λ (n : ℕ). LegalBefore session (log_of session s) n) ((p.ended t).1) (whole session s p ((p.ended t).0))

pub ended_text : (session : Session) (s : State) → Part session s → s.ended ≡ true → text session s ≡ report session (log_of session s)
ended_text session s p t =
    ap (λ b. report_of_shifts session (log_of session s) (suc s.shift) ++ cond b (end_line (entries_of s)) []) t
    ∙ ap (λ n. report_of_shifts session (log_of session s) n ++ end_line (entries_of s)) (let e : suc s.shift ≡ length session.shifts = omega (arith, (p.ended t).1) in e)
    ∙ sym (report_is session (log_of session s))

finish_end : (session : Session) (s : State) → Part session s → s.ended ≡ true → Passes session (text session s)
finish_end session s p t = (log_of session s, ended_legal session s p t, ([], sym (ended_text session s p t) ∙ sym (append-nil (text session s))))

-- where a state of the shift leads on

abbrev Goes : Session → ℕ → (State → Type 0) → Type 0
Goes session k Done = (s : State) → Part session s → s.ended ≡ false → s.shift ≡ k → Done s → Passes session (text session s)

-- the acts of one painter that are left
painter_acts : (session : Session) (k i m : ℕ) → Goes session k (λ s. (j : ℕ) → j < i + 1 → done_of s j ≡ stated_acts session s j)
    → Goes session k (λ s. (i < painters_of session s) × (stated_acts session s i ≡ done_of s i + m) × ((j : ℕ) → j < i → done_of s j ≡ stated_acts session s j))
painter_acts session k i zero next s p going at (there, left, below) = next s p going at (λ j h. by j h (cases_lt j i)) where
  by : (j : ℕ) → j < i + 1 → (j < i) ⊎ (i ≤ j) → done_of s j ≡ stated_acts session s j
  by j h (inl low) = below j low
  by j h (inr high) = subst (λ n. done_of s n ≡ stated_acts session s n) (let e : i ≡ j = omega arith in e) (omega (arith, left))
painter_acts session k i (suc m) next s p going at (there, left, below) =
    let act = named_act session (record { shift = s.shift; painter = i; number = done_of s i + 1; reply = Painted }) in
    let e : Entry = record { shift = s.shift; painter = i; number = done_of s i + 1; reply = reply_to session.design (history_of session s) act } in
    let can : CanDo session s e = record { going = going; shift = refl; painter = there; number = refl; left = omega (arith, left); reply = refl } in
    let here : numbers_of_painter i (s.new ++ e ∷ []) ≡ numbers_of_painter i s.new ++ e.number ∷ [] = numbers_same i s.new e refl in
    back session s (Do e) p can (painter_acts session k i m next (go session s (Do e)) (part_kept session s (Do e) p can) going at (
      there,
      omega (arith, left, ap length here, length-append (numbers_of_painter i s.new) (e.number ∷ [])),
      λ j h. ap length (numbers_other j s.new e (λ (x : i ≡ j). omega arith)) ∙ below j h,
    ))

acts_from : (session : Session) (k q i : ℕ) → Goes session k (ActsDone session) → Goes session k (λ s. (painters_of session s ≡ i + q) × ((j : ℕ) → j < i → done_of s j ≡ stated_acts session s j))
acts_from session k zero i next s p going at (count, below) = next s p going at (record { each = λ j h. below j (omega (arith, count, h)) })
acts_from session k (suc q) i next s p going at (count, below) =
    painter_acts session k i (stated_acts session s i - done_of s i) (λ z pz gz az bz. acts_from session k q (i + 1) next z pz gz az (painters z az, bz)) s p going at
    (omega (arith, count), omega (arith, p.merges.few i (omega (arith, count))), below) where
      painters : (z : State) → z.shift ≡ k → painters_of session z ≡ i + 1 + q
      painters z az = ap (λ n. length (plan_of session n).painters) (az ∙ sym at) ∙ (let e : painters_of session s ≡ i + 1 + q = omega (arith, count) in e)

finish_acts : (session : Session) (k : ℕ) → Goes session k (ActsDone session) → (s : State) → Part session s → s.ended ≡ false → s.shift ≡ k → Passes session (text session s)
finish_acts session k next s p going at = acts_from session k (painters_of session s) 0 next s p going at (omega arith, λ j h. absurd (omega arith))

-- the newest version can be woven
newest : (session : Session) (s : State) (loom : ℕ) → Part session s → s.ended ≡ false → ActsDone session s → WovenBelow session s loom → loom < session.looms
    → length (woven_of s loom) < stated_repeats session s loom → (r : Repeat) × CanWeave session s loom r
newest session s loom p going acts below there left =
    let v = accepted_before (s.shift + 1) (entries_of s) in
    let paper = get_or (versions_of session s) v session.opening in (
      repeat_of s.shift v session.show_rows (lifted session.design (face_of session loom) paper),
      record {
        going = going;
        acts = acts;
        below = below;
        there = there;
        left = left;
        shift = refl;
        no_older = accepted_rises s.shift (s.shift + 1) (entries_of s) (omega arith);
        no_newer = omega arith;
        rises = (p.repeats loom there).no_newer;
        is = record {
          paper = paper;
          version = slice_get-get_or (versions_of session s) v session.opening (omega (arith, journal_versions session (entries_of s) (s.shift + 1) (journal_whole session s p acts)));
          digest = refl;
          rows = refl;
        };
      },
    )

-- the repeats of one loom that are left
loom_repeats : (session : Session) (k i m : ℕ) → Goes session k (λ s. ActsDone session s × WovenBelow session s (i + 1))
    → Goes session k (λ s. (i < session.looms) × (stated_repeats session s i ≡ length (woven_of s i) + m) × ActsDone session s × WovenBelow session s i)
loom_repeats session k i zero next s p going at (there, left, acts, below) = next s p going at (acts, record { each = λ j h. by j h (cases_lt j i) }) where
  by : (j : ℕ) → j < i + 1 → (j < i) ⊎ (i ≤ j) → length (woven_of s j) ≡ stated_repeats session s j
  by j h (inl low) = below.each j low
  by j h (inr high) = subst (λ n. length (woven_of s n) ≡ stated_repeats session s n) (let e : i ≡ j = omega arith in e) (omega (arith, left))
loom_repeats session k i (suc m) next s p going at (there, left, acts, below) =
    let found = newest session s i p going acts below there (omega (arith, left)) in
    let r = found.0 in
    back session s (Weave i r) p found.1 (loom_repeats session k i m next (go session s (Weave i r)) (part_kept session s (Weave i r) p found.1) going at (
      there,
      omega (arith, left, ap length (get_or-set_same s.woven i (woven_of s i ++ r ∷ []) [] (omega (arith, there, p.looms))), length-append (woven_of s i) (r ∷ [])),
      record { each = acts.each },
      record { each = λ j h. ap length (get_or-set_other s.woven i j (woven_of s i ++ r ∷ []) [] (λ (x : j ≡ i). omega arith)) ∙ below.each j h },
    ))

looms_from : (session : Session) (k q i : ℕ) → session.looms ≡ i + q → Goes session k (AllDone session) → Goes session k (λ s. ActsDone session s × WovenBelow session s i)
looms_from session k zero i count next s p going at (acts, below) = next s p going at (record { acts = acts; repeats = record { each = λ j h. below.each j (omega (arith, count, h)) } })
looms_from session k (suc q) i count next s p going at (acts, below) =
    loom_repeats session k i (stated_repeats session s i - length (woven_of s i)) (λ z pz gz az bz. looms_from session k q (i + 1) (omega (arith, count)) next z pz gz az bz) s p going at
    (omega (arith, count), omega (arith, (p.repeats i (omega (arith, count))).few), acts, below)

finish_shift : (session : Session) (k : ℕ) → Goes session k (AllDone session) → (s : State) → Part session s → s.ended ≡ false → s.shift ≡ k → Passes session (text session s)
finish_shift session k next = finish_acts session k (λ s p going at acts. looms_from session k session.looms 0 (omega arith) next s p going at (acts, record { each = λ j h. absurd (omega arith) }))

finish_from : (session : Session) (n k : ℕ) → length session.shifts ≡ k + 1 + n → Goes session k (AllDone session)
finish_from session zero k many s p going at d =
    let can : CanEnd session s = record { going = going; done = d; last = omega (arith, many, at) } in
    back session s End p can (finish_end session (go session s End) (part_kept session s End p can) refl)
finish_from session (suc n) k many s p going at d =
    let can : CanBegin session s = record { going = going; done = d; more = omega (arith, many, at) } in
    back session s Begin p can (finish_shift session (k + 1) (finish_from session n (k + 1) (omega (arith, many))) (go session s Begin) (part_kept session s Begin p can) going (ap (λ x. x + 1) at))

-- what was read so far is a prefix of the report of a legal log
pub finish : (session : Session) (s : State) → Part session s → Passes session (text session s)
finish session s p = by s.ended refl where
  by : (b : Bool) → s.ended ≡ b → Passes session (text session s)
  by true t = finish_end session s p t
  by false f = finish_shift session s.shift (finish_from session (length session.shifts - (s.shift + 1)) s.shift (omega (arith, p.within))) s p f refl
