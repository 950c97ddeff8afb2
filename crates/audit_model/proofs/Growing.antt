-- Each move adds its lines to the text.
use Rattle.std.proofs.Common.{◌≡◌, ◌≢◌, ◌⊎◌, inl, inr, ◌+◌, ◌<◌, ◌≤◌, ℕ, suc, add-one, Bool, Option, Some, None, codes, false, cond, List, [], ◌∷◌, ◌++◌, length, get_or, refl, sym, ap, subst, ◌∙◌, append_assoc, append-nil, arith}
use Rattle.std.proofs.lemmas.Bool.{cases_lt, cases_eq}
use Rattle.std.proofs.lemmas.List.{get_or-set_same, get_or-set_other}
use Rattle.std.specs.Prelude.{All}
use Rattle.std.proofs.lemmas.List.Elements.{All-append}
use Rattle.std.proofs.lemmas.List.FromFn.{length-map-range_with_len}
use Rattle.draft_model.specs.Cloths.{ClothCells}
use Rattle.version_journal.specs.declared.run_log.RunLog.{RunLog}
use Rattle.shift_model.proofs.lemmas.Lists.{All_mono}
use Rattle.version_journal.specs.declared.entry.Entry.{Entry}
use Rattle.version_journal.specs.declared.run_log.Repeat.{Repeat}
use Rattle.session_file.specs.declared.session.Session.{Session}
use Rattle.mill_base.specs.declared.face.Face.{Face}
use Rattle.mill_base.specs.declared.face.Face.TheVariants.{Up}
use Rattle.session_file.specs.declared.session.ShiftPlan.{ShiftPlan}
use Rattle.report_text.specs.Reports.{act_in_shift, act_line, act_lines, lines_from, loom_line, loom_lines, lines_of_looms, lines_of_shifts, numbered, last_version, design_text, repeat_in_shift, report, row_line, row_lines, shift_lines}
use Rattle.audit_model.specs.Lines.{design_line, end_line, first_line, lines_of_rows, report_of_shifts, shift_head, shown_lines, texts_below}
use Rattle.audit_model.specs.Audits.{joined}
use Rattle.audit_model.specs.States.{ActsDone, CanBegin, CanDo, CanEnd, CanWeave, Can, Move, Part, State, WovenBelow, entries_of, face_of, go, line, log_of, more_lines, repeats_of, text, woven_of}
use Rattle.audit_model.specs.States.Move.{Do, Weave, Begin, End}
use Rattle.audit_model.proofs.Basics.{at_range, at_replicate, is_other, is_same, nothing_in, shift_of, texts_below-alike, texts_below-grows, texts_below-none, lines_below, lines_from-none, lines_from-one}

abbrev pub head_of : Session → List ℕ
head_of session = first_line ++ design_line session

-- the text of a shift, of entries and of the repeats of each loom
abbrev pub shift_by : Session → List Entry → (ℕ → List Repeat) → ℕ → List ℕ
shift_by session es rs j = shift_head j ++ act_lines j es ++ texts_below session.looms (λ loom. loom_lines j (face_of session loom) loom (rs loom))

looms_are : (session : Session) (s : State) (j : ℕ) → lines_of_looms j session.faces (log_of session s).looms ≡ texts_below session.looms (λ loom. loom_lines j (face_of session loom) loom (repeats_of s loom))
looms_are session s j =
    lines_below (λ loom repeats. loom_lines j (face_of session loom) loom repeats) (log_of session s).looms []
    ∙ ap (λ n. texts_below n (λ i. loom_lines j (face_of session i) i (get_or (log_of session s).looms i []))) (length-map-range_with_len (repeats_of s) 0 session.looms)
    ∙ texts_below-alike session.looms (λ i. loom_lines j (face_of session i) i (get_or (log_of session s).looms i [])) (λ i. loom_lines j (face_of session i) i (repeats_of s i))
    (λ i h. ap (loom_lines j (face_of session i) i) (at_range (repeats_of s) session.looms i [] h))

pub shift_is : (session : Session) (s : State) (j : ℕ) → shift_lines session (log_of session s) j ≡ shift_by session (entries_of s) (repeats_of s) j
shift_is session s j = ap (λ l. shift_head j ++ act_lines j (entries_of s) ++ l) (looms_are session s j)

-- the report is that of all shifts, and the last line
pub report_is : (session : Session) (log : RunLog) → report session log ≡ report_of_shifts session log (length session.shifts) ++ end_line log.entries
report_is session log =
    let head = codes "studio 1\n" ++ codes "design " ++ design_text session.design ++ codes "\n" in
    let shifts = texts_below (length session.shifts) (shift_lines session log) in
    let end = numbered (codes "end versions ") (last_version log.entries) in
    let heads : head ≡ head_of session =
    ap (λ l. l ++ codes "\n") (append_assoc (codes "studio 1\n") (codes "design ") (design_text session.design)) ∙ append_assoc (codes "studio 1\n") (codes "design " ++ design_text session.design) (codes "\n") in
    ap (λ l. ((head ++ l) ++ end) ++ codes "\n") (lines_below (λ shift plan. shift_lines session log shift) session.shifts no_plan)
    ∙ append_assoc (head ++ shifts) end (codes "\n") ∙ ap (λ l. (l ++ shifts) ++ (end ++ codes "\n")) heads where
      no_plan : ShiftPlan
      no_plan = record { repeats = []; painters = [] }

pub texts_are : (session : Session) (s : State) (n : ℕ) → report_of_shifts session (log_of session s) n ≡ head_of session ++ texts_below n (shift_by session (entries_of s) (repeats_of s))
texts_are session s n = ap (λ l. head_of session ++ l) (texts_below-alike n (shift_lines session (log_of session s)) (shift_by session (entries_of s) (repeats_of s)) (λ j h. shift_is session s j))

pub text_open : (session : Session) (s : State) → s.ended ≡ false → text session s ≡ head_of session ++ texts_below (suc s.shift) (shift_by session (entries_of s) (repeats_of s))
text_open session s going = ap (λ b. report_of_shifts session (log_of session s) (suc s.shift) ++ cond b (end_line (entries_of s)) []) going
    ∙ append-nil (report_of_shifts session (log_of session s) (suc s.shift)) ∙ texts_are session s (suc s.shift)

act_elsewhere : (j n : ℕ) (e : Entry) → e.shift ≢ j → act_in_shift j n e ≡ []
act_elsewhere j n e h = ap (λ b. cond b (act_line n e) []) (is_other e.shift j h)

act_here : (j n : ℕ) (e : Entry) → e.shift ≡ j → act_in_shift j n e ≡ act_line n e
act_here j n e h = ap (λ b. cond b (act_line n e) []) (is_same e.shift j h)

repeat_elsewhere : (face : Face) (j loom n : ℕ) (r : Repeat) → r.shift ≢ j → repeat_in_shift j face loom n r ≡ []
repeat_elsewhere face j loom n r h = ap (λ b. cond b (loom_line face loom n r ++ row_lines r.rows) []) (is_other r.shift j h)

repeat_here : (face : Face) (j loom n : ℕ) (r : Repeat) → r.shift ≡ j → repeat_in_shift j face loom n r ≡ loom_line face loom n r ++ row_lines r.rows
repeat_here face j loom n r h = ap (λ b. cond b (loom_line face loom n r ++ row_lines r.rows) []) (is_same r.shift j h)

-- nothing of a shift that did not come
pub no_repeats : (face : Face) (j loom : ℕ) (rs : List Repeat) → All (λ r. r.shift < j) rs → loom_lines j face loom rs ≡ []
no_repeats face j loom rs all = lines_from-none 0 (repeat_in_shift j face loom) (λ r. r.shift < j) rs (λ n r h. repeat_elsewhere face j loom n r (λ (e : r.shift ≡ j). omega arith)) all

pub no_acts : (j : ℕ) (es : List Entry) → All (λ e. e.shift < j) es → act_lines j es ≡ []
no_acts j es all = lines_from-none 0 (act_in_shift j) (λ e. e.shift < j) es (λ n e h. act_elsewhere j n e (λ (x : e.shift ≡ j). omega arith)) all

pub old_repeats : (session : Session) (s : State) → Part session s → (loom : ℕ) → loom < session.looms → All (λ r. r.shift < s.shift) (get_or s.before.looms loom [])
old_repeats session s p loom h = shift_of (λ (r : Repeat). r.shift) (get_or s.before.looms loom []) (λ n. n < s.shift) (p.legal.repeats loom h).shifts.before

pub old_entries : (session : Session) (s : State) → Part session s → All (λ e. e.shift < s.shift) s.before.entries
old_entries session s p = shift_of (λ (e : Entry). e.shift) s.before.entries (λ n. n < s.shift) p.legal.journal.shifts.before

-- a loom that may not weave yet has woven nothing of the shift
pub idle : (session : Session) (s : State) → Part session s → (loom : ℕ) → loom < session.looms → ((ActsDone session s × WovenBelow session s loom) → ⊥) → woven_of s loom ≡ []
idle session s p loom h not_yet = by (cases_lt 0 (length (woven_of s loom))) where
  by : (0 < length (woven_of s loom)) ⊎ (length (woven_of s loom) ≤ 0) → woven_of s loom ≡ []
  by (inl some) = absurd (not_yet ((p.repeats loom h).order some))
  by (inr none) = nothing_in (woven_of s loom) (omega arith)

idle_text : (session : Session) (s : State) → Part session s → (loom : ℕ) → loom < session.looms → ((ActsDone session s × WovenBelow session s loom) → ⊥) → loom_lines s.shift (face_of session loom) loom (repeats_of s loom) ≡ []
idle_text session s p loom h not_yet =
    ap (λ l. loom_lines s.shift (face_of session loom) loom (get_or s.before.looms loom [] ++ l)) (idle session s p loom h not_yet) ∙ ap (loom_lines s.shift (face_of session loom) loom) (append-nil (get_or s.before.looms loom []))
    ∙ no_repeats (face_of session loom) s.shift loom (get_or s.before.looms loom []) (old_repeats session s p loom h)

do_grows : (session : Session) (s : State) (e : Entry) → Part session s → CanDo session s e → text session (go session s (Do e)) ≡ text session s ++ (act_line (length (entries_of s)) e ++ [])
do_grows session s e p c =
    let f = shift_by session (entries_of s) (repeats_of s) in
    let g = shift_by session (s.before.entries ++ (s.new ++ e ∷ [])) (repeats_of s) in
    let added : (j : ℕ) → act_lines j (s.before.entries ++ (s.new ++ e ∷ [])) ≡ act_lines j (entries_of s) ++ act_in_shift j (length (entries_of s)) e =
    λ j. ap (act_lines j) (sym (append_assoc s.before.entries s.new (e ∷ []))) ∙ lines_from-one (act_in_shift j) (entries_of s) e in
    let none : texts_below session.looms (λ loom. loom_lines s.shift (face_of session loom) loom (repeats_of s loom)) ≡ [] =
    texts_below-none session.looms (λ loom. loom_lines s.shift (face_of session loom) loom (repeats_of s loom)) (λ loom h. idle_text session s p loom h (λ y. let d : _ = y.0.each e.painter c.painter in omega (arith, d, c.left))) in
    let here : g s.shift ≡ f s.shift ++ (act_line (length (entries_of s)) e ++ []) =
    ap (λ l. (shift_head s.shift ++ act_lines s.shift (s.before.entries ++ (s.new ++ e ∷ []))) ++ l) none ∙ append-nil (shift_head s.shift ++ act_lines s.shift (s.before.entries ++ (s.new ++ e ∷ [])))
    ∙ ap (λ l. shift_head s.shift ++ l) (added s.shift ∙ ap (λ l. act_lines s.shift (entries_of s) ++ l) (act_here s.shift (length (entries_of s)) e c.shift))
    ∙ sym (append_assoc (shift_head s.shift) (act_lines s.shift (entries_of s)) (act_line (length (entries_of s)) e))
    ∙ sym (ap (λ l. ((shift_head s.shift ++ act_lines s.shift (entries_of s)) ++ l) ++ (act_line (length (entries_of s)) e ++ [])) none
    ∙ ap (λ l. l ++ (act_line (length (entries_of s)) e ++ [])) (append-nil (shift_head s.shift ++ act_lines s.shift (entries_of s)))
    ∙ ap (λ l. (shift_head s.shift ++ act_lines s.shift (entries_of s)) ++ l) (append-nil (act_line (length (entries_of s)) e))) in
    let low : (j : ℕ) → j < s.shift → g j ≡ f j =
    λ j h. ap (λ l. shift_head j ++ l ++ texts_below session.looms (λ loom. loom_lines j (face_of session loom) loom (repeats_of s loom)))
    (added j ∙ ap (λ l. act_lines j (entries_of s) ++ l) (act_elsewhere j (length (entries_of s)) e (λ (x : e.shift ≡ j). omega (arith, x, c.shift))) ∙ append-nil (act_lines j (entries_of s))) in
    text_open session (go session s (Do e)) c.going
    ∙ ap (λ l. head_of session ++ l) (texts_below-grows (suc s.shift) s.shift f g (act_line (length (entries_of s)) e ++ []) (omega arith) low here (λ j a b. absurd (omega arith)))
    ∙ sym (append_assoc (head_of session) (texts_below (suc s.shift) f) (act_line (length (entries_of s)) e ++ []))
    ∙ sym (ap (λ l. l ++ (act_line (length (entries_of s)) e ++ [])) (text_open session s c.going))

-- the repeats of a loom with one more, and those of the others
pub woven_here : (session : Session) (s : State) → Part session s → (loom : ℕ) (r : Repeat) → loom < session.looms
    → repeats_of (go session s (Weave loom r)) loom ≡ repeats_of s loom ++ r ∷ []
woven_here session s p loom r h =
    ap (λ l. get_or s.before.looms loom [] ++ l) (get_or-set_same s.woven loom (woven_of s loom ++ r ∷ []) [] (omega (arith, h, p.looms)))
    ∙ sym (append_assoc (get_or s.before.looms loom []) (woven_of s loom) (r ∷ []))

pub woven_there : (session : Session) (s : State) (loom j : ℕ) (r : Repeat) → j ≢ loom → repeats_of (go session s (Weave loom r)) j ≡ repeats_of s j
woven_there session s loom j r h = ap (λ l. get_or s.before.looms j [] ++ l) (get_or-set_other s.woven loom j (woven_of s loom ++ r ∷ []) [] h)

-- the lines of the rows of a repeat
rows_are : (n : ℕ) (rows : List (List Bool)) → joined (lines_of_rows n rows) ≡ lines_from n row_line rows
rows_are n [] = refl
rows_are n (row ∷ rows) = ap (λ l. row_line n row ++ l) (rows_are (n + 1) rows)

shown_are : (rows : Option ClothCells) → joined (shown_lines rows) ≡ row_lines rows
shown_are None = refl
shown_are (Some cloth) = rows_are 0 cloth.rows

weave_grows : (session : Session) (s : State) (loom : ℕ) (r : Repeat) → Part session s → CanWeave session s loom r
    → text session (go session s (Weave loom r)) ≡ text session s ++ (loom_line (face_of session loom) loom (length (repeats_of s loom)) r ++ joined (shown_lines r.rows))
weave_grows session s loom r p c =
    let f = shift_by session (entries_of s) (repeats_of s) in
    let g = shift_by session (entries_of s) (repeats_of (go session s (Weave loom r))) in
    let more = loom_line (face_of session loom) loom (length (repeats_of s loom)) r ++ joined (shown_lines r.rows) in
    let added : (j : ℕ) → loom_lines j (face_of session loom) loom (repeats_of (go session s (Weave loom r)) loom) ≡ loom_lines j (face_of session loom) loom (repeats_of s loom) ++ repeat_in_shift j (face_of session loom) loom (length (repeats_of s loom)) r =
    λ j. ap (loom_lines j (face_of session loom) loom) (woven_here session s p loom r c.there) ∙ lines_from-one (repeat_in_shift j (face_of session loom) loom) (repeats_of s loom) r in
    let others : (j i : ℕ) → i ≢ loom → loom_lines j (face_of session i) i (repeats_of (go session s (Weave loom r)) i) ≡ loom_lines j (face_of session i) i (repeats_of s i) =
    λ j i h. ap (loom_lines j (face_of session i) i) (woven_there session s loom i r h) in
    let later : (i : ℕ) → loom < i → i < session.looms → loom_lines s.shift (face_of session i) i (repeats_of s i) ≡ [] =
    λ i up h. idle_text session s p i h (λ y. let d : _ = y.1.each loom up in omega (arith, d, c.left)) in
    let looms : texts_below session.looms (λ i. loom_lines s.shift (face_of session i) i (repeats_of (go session s (Weave loom r)) i)) ≡ texts_below session.looms (λ i. loom_lines s.shift (face_of session i) i (repeats_of s i)) ++ more =
    texts_below-grows session.looms loom (λ i. loom_lines s.shift (face_of session i) i (repeats_of s i)) (λ i. loom_lines s.shift (face_of session i) i (repeats_of (go session s (Weave loom r)) i)) more c.there
    (λ i h. others s.shift i (λ (e : i ≡ loom). omega arith))
    (added s.shift ∙ ap (λ l. loom_lines s.shift (face_of session loom) loom (repeats_of s loom) ++ l) (repeat_here (face_of session loom) s.shift loom (length (repeats_of s loom)) r c.shift
    ∙ ap (λ l. loom_line (face_of session loom) loom (length (repeats_of s loom)) r ++ l) (sym (shown_are r.rows))))
    (λ i up h. (later i up h, others s.shift i (λ (e : i ≡ loom). omega arith) ∙ later i up h)) in
    let here : g s.shift ≡ f s.shift ++ more =
    ap (λ l. (shift_head s.shift ++ act_lines s.shift (entries_of s)) ++ l) looms
    ∙ sym (append_assoc (shift_head s.shift ++ act_lines s.shift (entries_of s)) (texts_below session.looms (λ i. loom_lines s.shift (face_of session i) i (repeats_of s i))) more) in
    let same : (j : ℕ) → j < s.shift → (i : ℕ) → i < session.looms → loom_lines j (face_of session i) i (repeats_of (go session s (Weave loom r)) i) ≡ loom_lines j (face_of session i) i (repeats_of s i) =
    λ j h i l. by j h i (cases_eq i loom) (added j) (others j i) in
    let low : (j : ℕ) → j < s.shift → g j ≡ f j =
    λ j h. ap (λ l. shift_head j ++ act_lines j (entries_of s) ++ l) (texts_below-alike session.looms (λ i. loom_lines j (face_of session i) i (repeats_of (go session s (Weave loom r)) i)) (λ i. loom_lines j (face_of session i) i (repeats_of s i)) (same j h)) in
    text_open session (go session s (Weave loom r)) c.going
    ∙ ap (λ l. head_of session ++ l) (texts_below-grows (suc s.shift) s.shift f g more (omega arith) low here (λ j a b. absurd (omega arith)))
    ∙ sym (append_assoc (head_of session) (texts_below (suc s.shift) f) more)
    ∙ sym (ap (λ l. l ++ more) (text_open session s c.going)) where
      by : (j : ℕ) → j < s.shift → (i : ℕ) → (i ≡ loom) ⊎ (i ≢ loom)
          → loom_lines j (face_of session loom) loom (repeats_of (go session s (Weave loom r)) loom) ≡ loom_lines j (face_of session loom) loom (repeats_of s loom) ++ repeat_in_shift j (face_of session loom) loom (length (repeats_of s loom)) r
          → (i ≢ loom → loom_lines j (face_of session i) i (repeats_of (go session s (Weave loom r)) i) ≡ loom_lines j (face_of session i) i (repeats_of s i))
          → loom_lines j (face_of session i) i (repeats_of (go session s (Weave loom r)) i) ≡ loom_lines j (face_of session i) i (repeats_of s i)
      by j h i (inr other) added others = others other
      by j h i (inl same) added others =
          subst (λ m. loom_lines j (face_of session m) m (repeats_of (go session s (Weave loom r)) m) ≡ loom_lines j (face_of session m) m (repeats_of s m)) (sym same)
          (added ∙ ap (λ l. loom_lines j (face_of session loom) loom (repeats_of s loom) ++ l) (repeat_elsewhere (face_of session loom) j loom (length (repeats_of s loom)) r (λ (e : r.shift ≡ j). omega (arith, e, c.shift, h)))
          ∙ append-nil (loom_lines j (face_of session loom) loom (repeats_of s loom)))

-- at the beginning of a shift the repeats are what they were
pub begun_repeats : (session : Session) (s : State) (loom : ℕ) → loom < session.looms → repeats_of (go session s Begin) loom ≡ repeats_of s loom
begun_repeats session s loom h =
    ap (λ l. get_or (log_of session s).looms loom [] ++ l) (at_replicate session.looms loom [] [] h) ∙ append-nil (get_or (log_of session s).looms loom []) ∙ at_range (repeats_of s) session.looms loom [] h

-- all that was done is of this shift or an earlier one
pub entries_until : (session : Session) (s : State) → Part session s → All (λ e. e.shift < s.shift + 1) (entries_of s)
entries_until session s p = All-append (λ e. e.shift < s.shift + 1) s.before.entries s.new
    (All_mono (λ (e : Entry). e.shift < s.shift) (λ e. e.shift < s.shift + 1) s.before.entries (λ e h. omega arith) (old_entries session s p))
    (All_mono (λ (e : Entry). e.shift ≡ s.shift) (λ e. e.shift < s.shift + 1) s.new (λ e h. omega (arith, h)) p.of_shift)

pub repeats_until : (session : Session) (s : State) → Part session s → (loom : ℕ) → loom < session.looms → All (λ r. r.shift < s.shift + 1) (repeats_of s loom)
repeats_until session s p loom h = All-append (λ r. r.shift < s.shift + 1) (get_or s.before.looms loom []) (woven_of s loom)
    (All_mono (λ (r : Repeat). r.shift < s.shift) (λ r. r.shift < s.shift + 1) (get_or s.before.looms loom []) (λ r l. omega arith) (old_repeats session s p loom h))
    (All_mono (λ (r : Repeat). r.shift ≡ s.shift) (λ r. r.shift < s.shift + 1) (woven_of s loom) (λ r l. omega (arith, l)) ((p.repeats loom h).of_shift))

begin_grows : (session : Session) (s : State) → Part session s → CanBegin session s → text session (go session s Begin) ≡ text session s ++ (shift_head (s.shift + 1) ++ [])
begin_grows session s p c =
    let f = shift_by session (entries_of s) (repeats_of s) in
    let g = shift_by session (entries_of s ++ []) (repeats_of (go session s Begin)) in
    let alike : (j : ℕ) → g j ≡ f j =
    λ j. ap (λ l. shift_head j ++ act_lines j l ++ texts_below session.looms (λ i. loom_lines j (face_of session i) i (repeats_of (go session s Begin) i))) (append-nil (entries_of s))
    ∙ ap (λ l. shift_head j ++ act_lines j (entries_of s) ++ l) (texts_below-alike session.looms (λ i. loom_lines j (face_of session i) i (repeats_of (go session s Begin) i)) (λ i. loom_lines j (face_of session i) i (repeats_of s i)) (λ i h. ap (loom_lines j (face_of session i) i) (begun_repeats session s i h))) in
    let last : f (s.shift + 1) ≡ shift_head (s.shift + 1) ++ [] =
    ap (λ l. shift_head (s.shift + 1) ++ l ++ texts_below session.looms (λ i. loom_lines (s.shift + 1) (face_of session i) i (repeats_of s i))) (no_acts (s.shift + 1) (entries_of s) (entries_until session s p))
    ∙ ap (λ l. (shift_head (s.shift + 1) ++ []) ++ l) (texts_below-none session.looms (λ i. loom_lines (s.shift + 1) (face_of session i) i (repeats_of s i)) (λ i h. no_repeats (face_of session i) (s.shift + 1) i (repeats_of s i) (repeats_until session s p i h)))
    ∙ append-nil (shift_head (s.shift + 1) ++ []) in
    text_open session (go session s Begin) c.going
    ∙ ap (λ l. head_of session ++ l) (texts_below-alike (suc (s.shift + 1)) g f (λ j h. alike j) ∙ ap (λ l. texts_below (s.shift + 1) f ++ l) last)
    ∙ sym (append_assoc (head_of session) (texts_below (s.shift + 1) f) (shift_head (s.shift + 1) ++ []))
    ∙ ap (λ n. (head_of session ++ texts_below n f) ++ (shift_head (s.shift + 1) ++ [])) (add-one s.shift)
    ∙ sym (ap (λ l. l ++ (shift_head (s.shift + 1) ++ [])) (text_open session s c.going))

end_grows : (session : Session) (s : State) → CanEnd session s → text session (go session s End) ≡ text session s ++ (end_line (entries_of s) ++ [])
end_grows session s c =
    ap (λ l. report_of_shifts session (log_of session s) (suc s.shift) ++ l) (sym (append-nil (end_line (entries_of s))))
    ∙ sym (ap (λ b. (report_of_shifts session (log_of session s) (suc s.shift) ++ cond b (end_line (entries_of s)) []) ++ (end_line (entries_of s) ++ [])) c.going
    ∙ ap (λ l. l ++ (end_line (entries_of s) ++ [])) (append-nil (report_of_shifts session (log_of session s) (suc s.shift))))

pub text_grows : (session : Session) (s : State) (m : Move) → Part session s → Can session s m → text session (go session s m) ≡ text session s ++ (line session s m ++ joined (more_lines m))
text_grows session s (Do e) p c = do_grows session s e p c
text_grows session s (Weave loom r) p c = weave_grows session s loom r p c
text_grows session s Begin p c = begin_grows session s p c
text_grows session s End p c = end_grows session s c
