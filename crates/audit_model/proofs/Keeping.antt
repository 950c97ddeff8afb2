-- Each move leads from a part of a legal log to one.
use Rattle.std.proofs.Common.{◌≡◌, ◌≢◌, ◌⊎◌, inl, inr, ◌+◌, ◌<◌, ◌≤◌, ◌==◌, ℕ, zero, suc, Bool, true, false, cond, List, [], ◌∷◌, ◌++◌, length, length-append, map, fold, refl, sym, ap, subst, ◌∙◌, append_assoc, append-nil, arith}
use Rattle.std.proofs.lemmas.Bool.{cases_eq}
use Rattle.std.proofs.lemmas.List.{get_or-set_same, get_or-set_other, map-append, length-set}
use Rattle.std.proofs.lemmas.List.Elements.{All-append, All-map, filter-append}
use Rattle.std.proofs.lemmas.List.Sums.{fold-append, sum_by-cons}
use Rattle.std.proofs.lemmas.List.FromFn.{length-map-range_with_len}
use Rattle.std.specs.Prelude.{All, count_by}
use Rattle.version_journal.specs.Entries.{is_accepted}
use Rattle.version_journal.proofs.Histories.{versions_count}
use Rattle.report_text.specs.Reports.{last_version}
use Rattle.std.specs.List.{range_with_len}
use Rattle.std.specs.List.Sorted.{IsNonDecreasing}
use Rattle.shift_model.proofs.lemmas.Lists.{rises}
use Rattle.audit_model.proofs.Adding.{entries_versions, legal_more, journal_more}
use Rattle.audit_model.specs.inner.Adds.{AddsEntries}
use Rattle.version_journal.specs.declared.entry.Entry.{Entry}
use Rattle.version_journal.specs.declared.run_log.Repeat.{Repeat}
use Rattle.draft_model.specs.declared.design.Design.{Design}
use Rattle.version_journal.specs.declared.entry.Reply.TheVariants.{Painted}
use Rattle.loom_threads.specs.Woven.{IsWoven}
use Rattle.session_file.specs.declared.session.Session.{Session}
use Rattle.version_journal.specs.Journals.{ActWithMotif, History, begun, committed, history, is_commit, painted, replies, step}
use Rattle.shift_model.specs.Logs.{IsJournal, LegalBefore, accepted_before, named_act, numbers_of_painter}
use Rattle.audit_model.specs.States.{ActsDone, AllDone, CanBegin, CanDo, CanEnd, CanWeave, Can, Move, Part, State, WovePart, WovenBelow, commit_reply, done_of, entries_of, face_of, go, log_of, named_acts, painters_of, repeats_of, reply_to, stated_acts, stated_repeats, versions_of, woven_of}
use Rattle.audit_model.specs.States.Move.{Do, Weave, Begin, End}
use Rattle.audit_model.proofs.Basics.{at_range, at_replicate, is_other, is_same, length_replicate}
use Rattle.audit_model.proofs.Growing.{entries_until, idle}

pub not_both : (b : Bool) → b ≡ false → b ≡ true → ⊥
not_both b f t = let e : ◌≡◌ {A = ℕ} 0 1 = ap (λ x. cond x 1 0) (sym f ∙ t) in absurd (omega (arith, e))

-- the reply to one act more
pub reply_adds : (design : Design) (h : History) (act : ActWithMotif) → (step design h act).replies ≡ h.replies ++ reply_to design h act ∷ []
reply_adds design h act = by (is_commit act.act) where
  by : (b : Bool) → (cond b (committed design h) (painted h act)).replies ≡ h.replies ++ (cond b (commit_reply design h) Painted) ∷ []
  by true = refl
  by false = refl

-- the replies to one entry more
pub replies_more : (session : Session) (es : List Entry) (e : Entry)
    → replies session.design session.opening (named_acts session (es ++ e ∷ []))
    ≡ replies session.design session.opening (named_acts session es) ++ reply_to session.design (history session.design session.opening (named_acts session es)) (named_act session e) ∷ []
replies_more session es e =
    ap (λ l. (fold (step session.design) (begun session.opening) l).replies) (map-append (named_act session) es (e ∷ []))
    ∙ ap (λ h. h.replies) (fold-append (step session.design) (begun session.opening) (named_acts session es) (named_act session e ∷ []))
    ∙ reply_adds session.design (history session.design session.opening (named_acts session es)) (named_act session e)

range_more : (a n : ℕ) → range_with_len a n ++ (a + n) ∷ [] ≡ range_with_len a (suc n)
range_more a zero = ap (λ m. m ∷ []) (let e : a + 0 ≡ a = omega arith in e)
range_more a (suc n) = ap (λ l. a ∷ l) (ap (λ m. range_with_len (a + 1) n ++ m ∷ []) (let e : a + suc n ≡ (a + 1) + n = omega arith in e) ∙ range_more (a + 1) n)

-- the numbers of a painter with one entry more
pub numbers_same : (p : ℕ) (es : List Entry) (e : Entry) → e.painter ≡ p → numbers_of_painter p (es ++ e ∷ []) ≡ numbers_of_painter p es ++ e.number ∷ []
numbers_same p es e h =
    ap (map (λ (x : Entry). x.number)) (filter-append (λ (x : Entry). x.painter == p) es (e ∷ []))
    ∙ map-append (λ (x : Entry). x.number) _ _
    ∙ ap (λ b. numbers_of_painter p es ++ map (λ (x : Entry). x.number) (cond b (e ∷ []) [])) (is_same e.painter p h)

pub numbers_other : (p : ℕ) (es : List Entry) (e : Entry) → e.painter ≢ p → numbers_of_painter p (es ++ e ∷ []) ≡ numbers_of_painter p es
numbers_other p es e h =
    ap (map (λ (x : Entry). x.number)) (filter-append (λ (x : Entry). x.painter == p) es (e ∷ []))
    ∙ map-append (λ (x : Entry). x.number) _ _
    ∙ ap (λ b. numbers_of_painter p es ++ map (λ (x : Entry). x.number) (cond b (e ∷ []) [])) (is_other e.painter p h)
    ∙ append-nil (numbers_of_painter p es)

pub wove_are : (session : Session) (s : State) (loom : ℕ) (w : List Repeat) → woven_of s loom ≡ w → All (λ r. r.shift ≡ s.shift) w → IsNonDecreasing (map (λ r. r.version) w)
    → All (λ r. accepted_before s.shift (entries_of s) ≤ r.version) w → All (λ r. r.version ≤ accepted_before (s.shift + 1) (entries_of s)) w → All (IsWoven session.design session.show_rows (face_of session loom) (versions_of session s)) w
    → length w ≤ stated_repeats session s loom → (0 < length w → ActsDone session s × WovenBelow session s loom) → WovePart session s loom
wove_are session s loom w is a b c d e f g = record {
  of_shift = subst (λ (l : List Repeat). All (λ r. r.shift ≡ s.shift) l) (sym is) a;
  versions_rise = subst (λ (l : List Repeat). IsNonDecreasing (map (λ r. r.version) l)) (sym is) b;
  no_older = subst (λ (l : List Repeat). All (λ r. accepted_before s.shift (entries_of s) ≤ r.version) l) (sym is) c;
  no_newer = subst (λ (l : List Repeat). All (λ r. r.version ≤ accepted_before (s.shift + 1) (entries_of s)) l) (sym is) d;
  are = subst (λ (l : List Repeat). All (IsWoven session.design session.show_rows (face_of session loom) (versions_of session s)) l) (sym is) e;
  few = subst (λ (l : List Repeat). length l ≤ stated_repeats session s loom) (sym is) f;
  order = subst (λ (l : List Repeat). 0 < length l → ActsDone session s × WovenBelow session s loom) (sym is) g;
}

pub wove_none : (session : Session) (s : State) (loom : ℕ) → woven_of s loom ≡ [] → WovePart session s loom
wove_none session s loom is = wove_are session s loom [] is (λ k d h. absurd (omega arith)) (λ i j d up h. absurd (omega arith)) (λ k d h. absurd (omega arith)) (λ k d h. absurd (omega arith)) (λ k d h. absurd (omega arith))
    (omega arith) (λ h. absurd (omega arith))

one : {X : Type 0} (P : X → Type 0) (x : X) → P x → All P (x ∷ [])
one P x h zero d l = h
one P x h (suc k) d l = absurd (omega arith)

adds : (session : Session) (s : State) → Part session s → ActsDone session s → AddsEntries session s.shift s.before.entries (entries_of s)
adds session s p d = record {
  new = s.new;
  are = refl;
  of_shift = p.of_shift;
  merge = record { painters = p.merges.painters; numbers = λ painter h. p.merges.numbers painter h ∙ ap (range_with_len 1) (d.each painter h) };
  replied = p.replied;
}

-- once all acts of a shift are done, the journal is one of one shift more
pub journal_whole : (session : Session) (s : State) → Part session s → ActsDone session s → IsJournal session (entries_of s) (s.shift + 1)
journal_whole session s p d = journal_more session s.before.entries (entries_of s) s.shift p.legal.journal (adds session s p d)

-- once all of a shift is done, the log is one of one shift more
pub whole : (session : Session) (s : State) → Part session s → AllDone session s → LegalBefore session (log_of session s) (s.shift + 1)
whole session s p d = legal_more session s.shift s.before (log_of session s) p.legal (record {
  entries = adds session s p d.acts;
  looms = length-map-range_with_len (repeats_of s) 0 session.looms ∙ sym p.legal.looms;
  repeats = λ loom h. let w = p.repeats loom h in record {
    new = woven_of s loom;
    are = at_range (repeats_of s) session.looms loom [] h;
    of_shift = w.of_shift;
    count = d.repeats.each loom h;
    versions_rise = w.versions_rise;
    no_older = w.no_older;
    no_newer = w.no_newer;
    woven = w.are;
  };
})

do_keeps : (session : Session) (s : State) (e : Entry) → Part session s → CanDo session s e → Part session (go session s (Do e))
do_keeps session s e p c = record {
  legal = p.legal;
  within = p.within;
  looms = p.looms;
  of_shift = All-append (λ e. e.shift ≡ s.shift) s.new (e ∷ []) p.of_shift (one (λ (e : Entry). e.shift ≡ s.shift) e c.shift);
  merges = record {
    painters = All-append (λ e. e.painter < painters_of session s) s.new (e ∷ []) p.merges.painters (one (λ (e : Entry). e.painter < painters_of session s) e c.painter);
    numbers = λ painter h. (counted painter h (cases_eq e.painter painter)).0;
    few = λ painter h. (counted painter h (cases_eq e.painter painter)).1;
  };
  replied = subst (λ (l : List Entry). map (λ e. e.reply) l ≡ replies session.design session.opening (named_acts session l)) (append_assoc s.before.entries s.new (e ∷ []))
      (map-append (λ (e : Entry). e.reply) (entries_of s) (e ∷ []) ∙ ap (λ l. l ++ e.reply ∷ []) p.replied
      ∙ ap (λ r. replies session.design session.opening (named_acts session (entries_of s)) ++ r ∷ []) c.reply ∙ sym (replies_more session (entries_of s) e));
  repeats = λ loom h. wove_none session (go session s (Do e)) loom (idle session s p loom h (λ y. let d : _ = y.0.each e.painter c.painter in omega (arith, d, c.left)));
  ended = λ t. absurd (not_both s.ended c.going t);
} where
  counted : (painter : ℕ) → painter < painters_of session s → (e.painter ≡ painter) ⊎ (e.painter ≢ painter)
      → (numbers_of_painter painter (s.new ++ e ∷ []) ≡ range_with_len 1 (length (numbers_of_painter painter (s.new ++ e ∷ [])))) × (length (numbers_of_painter painter (s.new ++ e ∷ [])) ≤ stated_acts session s painter)
  counted painter h (inl same) =
      let n = done_of s painter in
      let here : numbers_of_painter painter (s.new ++ e ∷ []) ≡ numbers_of_painter painter s.new ++ e.number ∷ [] = numbers_same painter s.new e same in
      let long : length (numbers_of_painter painter (s.new ++ e ∷ [])) ≡ n + 1 = ap length here ∙ length-append (numbers_of_painter painter s.new) (e.number ∷ []) in
      let number : e.number ≡ 1 + n = c.number ∙ ap (λ q. done_of s q + 1) same ∙ (let x : n + 1 ≡ 1 + n = omega arith in x) in
      (here ∙ ap (λ l. l ++ e.number ∷ []) (p.merges.numbers painter h) ∙ ap (λ m. range_with_len 1 n ++ m ∷ []) number ∙ range_more 1 n ∙ ap (range_with_len 1) (let x : suc n ≡ length (numbers_of_painter painter (s.new ++ e ∷ [])) = omega (arith, long) in x), omega (arith, long, subst (λ q. done_of s q < stated_acts session s q) same c.left))
  counted painter h (inr other) =
      let here : numbers_of_painter painter (s.new ++ e ∷ []) ≡ numbers_of_painter painter s.new = numbers_other painter s.new e other in
      (here ∙ p.merges.numbers painter h ∙ ap (λ l. range_with_len 1 (length l)) (sym here), omega (arith, ap length here, p.merges.few painter h))

weave_keeps : (session : Session) (s : State) (loom : ℕ) (r : Repeat) → Part session s → CanWeave session s loom r → Part session (go session s (Weave loom r))
weave_keeps session s loom r p c = record {
  legal = p.legal;
  within = p.within;
  looms = length-set s.woven loom (woven_of s loom ++ r ∷ []) ∙ p.looms;
  of_shift = p.of_shift;
  merges = record { painters = p.merges.painters; numbers = p.merges.numbers; few = p.merges.few };
  replied = p.replied;
  repeats = λ j h. part j h (cases_eq j loom);
  ended = λ t. absurd (not_both s.ended c.going t);
} where
  acts : ActsDone session s → ActsDone session (go session s (Weave loom r))
  acts a = record { each = a.each }

  there : (j : ℕ) → j ≢ loom → woven_of (go session s (Weave loom r)) j ≡ woven_of s j
  there j h = get_or-set_other s.woven loom j (woven_of s loom ++ r ∷ []) [] h

  part : (j : ℕ) → j < session.looms → (j ≡ loom) ⊎ (j ≢ loom) → WovePart session (go session s (Weave loom r)) j
  part j h (inr other) =
      let w = p.repeats j h in
      wove_are session (go session s (Weave loom r)) j (woven_of s j) (there j other) w.of_shift w.versions_rise w.no_older w.no_newer w.are w.few (λ some. (
        acts (w.order some).0,
        record {
          each = λ i l. let b : _ = (w.order some).1 in ap length (there i (λ (same : i ≡ loom). let f : _ = b.each loom (omega (arith, same, l)) in omega (arith, f, c.left))) ∙ b.each i l;
        },
      ))
  part j h (inl same) = subst (λ (i : ℕ). WovePart session (go session s (Weave loom r)) i) (sym same) (
      let w = p.repeats loom c.there in
      let old = woven_of s loom in
      wove_are session (go session s (Weave loom r)) loom (old ++ r ∷ []) (get_or-set_same s.woven loom (old ++ r ∷ []) [] (omega (arith, c.there, p.looms)))
      (All-append (λ r. r.shift ≡ s.shift) old (r ∷ []) w.of_shift (one (λ (r : Repeat). r.shift ≡ s.shift) r c.shift))
      (subst (λ (l : List ℕ). IsNonDecreasing l) (sym (map-append (λ (r : Repeat). r.version) old (r ∷ [])))
      (rises (map (λ (r : Repeat). r.version) old) (r.version ∷ []) r.version w.versions_rise (single r.version) (All-map (λ n. n ≤ r.version) (λ (r : Repeat). r.version) old c.rises) (one (λ n. r.version ≤ n) r.version (omega arith))))
      (All-append (λ x. accepted_before s.shift (entries_of s) ≤ x.version) old (r ∷ []) w.no_older (one (λ (x : Repeat). accepted_before s.shift (entries_of s) ≤ x.version) r c.no_older))
      (All-append (λ x. x.version ≤ accepted_before (s.shift + 1) (entries_of s)) old (r ∷ []) w.no_newer (one (λ (x : Repeat). x.version ≤ accepted_before (s.shift + 1) (entries_of s)) r c.no_newer))
      (All-append (IsWoven session.design session.show_rows (face_of session loom) (versions_of session s)) old (r ∷ []) w.are (one (IsWoven session.design session.show_rows (face_of session loom) (versions_of session s)) r c.is))
      (omega (arith, length-append old (r ∷ []), c.left))
      (λ some. (acts c.acts, record { each = λ i l. ap length (there i (λ (e : i ≡ loom). omega (arith, e, l))) ∙ c.below.each i l }))) where
        single : (n : ℕ) → IsNonDecreasing (n ∷ [])
        single n zero zero d up l = omega arith
        single n (suc i) zero d up l = absurd (omega arith)
        single n i (suc j) d up l = absurd (omega arith)

begin_keeps : (session : Session) (s : State) → Part session s → CanBegin session s → Part session (go session s Begin)
begin_keeps session s p c = record {
  legal = whole session s p c.done;
  within = c.more;
  looms = length_replicate session.looms [];
  of_shift = λ k d h. absurd (omega arith);
  merges = record { painters = λ k d h. absurd (omega arith); numbers = λ painter h. refl; few = λ painter h. omega arith };
  replied = subst (λ (l : List Entry). map (λ e. e.reply) l ≡ replies session.design session.opening (named_acts session l)) (sym (append-nil (entries_of s))) p.replied;
  repeats = λ loom h. wove_none session (go session s Begin) loom (at_replicate session.looms loom [] [] h);
  ended = λ t. absurd (not_both s.ended c.going t);
}

end_keeps : (session : Session) (s : State) → Part session s → CanEnd session s → Part session (go session s End)
end_keeps session s p c = record {
  legal = p.legal;
  within = p.within;
  looms = p.looms;
  of_shift = p.of_shift;
  merges = record { painters = p.merges.painters; numbers = p.merges.numbers; few = p.merges.few };
  replied = p.replied;
  repeats = λ loom h. let w = p.repeats loom h in wove_are session (go session s End) loom (woven_of s loom) refl w.of_shift w.versions_rise w.no_older w.no_newer w.are w.few
      (λ some. (record { each = (w.order some).0.each }, record { each = (w.order some).1.each }));
  ended = λ t. (record { acts = record { each = c.done.acts.each }; repeats = record { each = c.done.repeats.each } }, c.last);
}

pub part_kept : (session : Session) (s : State) (m : Move) → Part session s → Can session s m → Part session (go session s m)
part_kept session s (Do e) p c = do_keeps session s e p c
part_kept session s (Weave loom r) p c = weave_keeps session s loom r p c
part_kept session s Begin p c = begin_keeps session s p c
part_kept session s End p c = end_keeps session s p c

-- one version more than commits that were accepted so far
pub versions_counted : (session : Session) (s : State) → Part session s → length (versions_of session s) ≡ accepted_before (s.shift + 1) (entries_of s) + 1
versions_counted session s p = entries_versions session (entries_of s) (s.shift + 1) (All-map (λ n. n < s.shift + 1) (λ (e : Entry). e.shift) (entries_of s) (entries_until session s p)) p.replied

count_replies : (es : List Entry) → count_by is_accepted (map (λ (e : Entry). e.reply) es) ≡ last_version es
count_replies [] = refl
count_replies (e ∷ es) = omega (
  arith,
  sum_by-cons (λ r. cond (is_accepted r) 1 0) e.reply (map (λ (x : Entry). x.reply) es),
  sum_by-cons (λ (x : Entry). cond (is_accepted x.reply) 1 0) e es,
  count_replies es,
)

pub last_counted : (session : Session) (s : State) → Part session s → length (versions_of session s) ≡ last_version (entries_of s) + 1
last_counted session s p = omega (
  arith,
  versions_count session.design session.opening (named_acts session (entries_of s)),
  ap (count_by is_accepted) p.replied,
  count_replies (entries_of s),
)
