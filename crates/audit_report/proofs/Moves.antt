-- Which moves a state allows.
use Rattle.std.proofs.Common.{◌≡◌, ◌⊎◌, inl, inr, ◌+◌, ◌<◌, ◌≤◌, ℕ, true, List, [], ◌∷◌, ◌++◌, length, drop, get_or, sym, subst, arith}
use Rattle.std.proofs.lemmas.Bool.{cases_lt}
use Rattle.std.proofs.lemmas.List.Sums.{count_by-le-length}
use Rattle.std.specs.Prelude.{nat_lt, ◌&&◌}
use Rattle.version_journal.specs.Entries.{is_accepted}
use Rattle.version_journal.specs.declared.entry.Entry.{Entry}
use Rattle.version_journal.specs.declared.run_log.Repeat.{Repeat}
use Rattle.session_file.specs.Plans.{Fits}
use Rattle.session_file.specs.declared.session.Session.{Session}
use Rattle.report_text.specs.Reports.{act_line, loom_line}
use Rattle.audit_model.specs.Audits.{Begins}
use Rattle.audit_model.specs.Lines.{end_line, shift_head}
use Rattle.audit_model.specs.Pieces.{IsLine}
use Rattle.audit_model.specs.Reads.{Reaches}
use Rattle.audit_model.specs.States.{ActsDone, CanDo, CanFollow, CanWeave, IsSmall, Part, State, WovenBelow, entries_of, face_of, go, line, more_lines, repeats_of, stated_repeats, woven_of}
use Rattle.audit_model.specs.States.Move.{Do, Weave, Begin, End}
use Rattle.audit_model.proofs.Following.{line_is}
use Rattle.audit_model.proofs.Keeping.{not_both}
use Rattle.audit_model.proofs.Reached.{line_comes, read_line, read_move}
use Rattle.audit_report.specs.Checkers.{Holds, coming_of, state_of}
use Rattle.audit_report.specs.Moves.{Goes}
use Rattle.audit_report.specs.declared.checker.Checker.{Checker}
use Rattle.audit_report.proofs.Counts.{few_entries}
use Rattle.audit_report.proofs.Rows.{drop_cons}

pub no_more : (session : Session) (s : State) (piece : List ℕ) → s.ended ≡ true → CanFollow session s piece → ⊥
no_more session s piece h (Do e, can, b) = not_both s.ended can.going h
no_more session s piece h (Weave loom r, can, b) = not_both s.ended can.going h
no_more session s piece h (Begin, can, b) = not_both s.ended can.going h
no_more session s piece h (End, can, b) = not_both s.ended can.going h

acts_over : (session : Session) (s : State) (e : Entry) → ActsDone session s → CanDo session s e → ⊥
acts_over session s e acts can = absurd (omega (arith, can.left, acts.each e.painter can.painter))

pub no_act : (session : Session) (s : State) (piece : List ℕ) → (ActsDone session s → ⊥)
    → ((e : Entry) → CanDo session s e → Begins piece (act_line (length (entries_of s)) e) → ⊥) → CanFollow session s piece → ⊥
no_act session s piece left none (Do e, can, b) = none e can b
no_act session s piece left none (Weave loom r, can, b) = left can.acts
no_act session s piece left none (Begin, can, b) = left can.done.acts
no_act session s piece left none (End, can, b) = left can.done.acts

pub no_repeat : (session : Session) (s : State) (loom : ℕ) (piece : List ℕ) → ActsDone session s → WovenBelow session s loom → loom < session.looms
    → length (woven_of s loom) < stated_repeats session s loom
    → ((r : Repeat) → CanWeave session s loom r → Begins piece (loom_line (face_of session loom) loom (length (repeats_of s loom)) r) → ⊥) → CanFollow session s piece → ⊥
no_repeat session s loom piece acts below there left none (Do e, can, b) = acts_over session s e acts can
no_repeat session s loom piece acts below there left none (Begin, can, b) = absurd (omega (arith, left, can.done.repeats.each loom there))
no_repeat session s loom piece acts below there left none (End, can, b) = absurd (omega (arith, left, can.done.repeats.each loom there))
no_repeat session s loom piece acts below there left none (Weave k r, can, b) = by (cases_lt k loom) where
  by : (k < loom) ⊎ (loom ≤ k) → ⊥
  by (inl less) = absurd (omega (arith, can.left, below.each k less))
  by (inr more) = at (cases_lt loom k) where
    at : (loom < k) ⊎ (k ≤ loom) → ⊥
    at (inl less) = absurd (omega (arith, left, can.below.each loom less))
    at (inr same) =
        let is : k ≡ loom = omega (arith, more, same) in
        none r (subst (λ n. CanWeave session s n r) is can) (subst (λ n. Begins piece (loom_line (face_of session n) n (length (repeats_of s n)) r)) is b)

woven_over : (session : Session) (s : State) (k : ℕ) (r : Repeat) → WovenBelow session s session.looms → CanWeave session s k r → ⊥
woven_over session s k r all can = absurd (omega (arith, can.left, all.each k can.there))

pub no_head : (session : Session) (s : State) (piece : List ℕ) → ActsDone session s → WovenBelow session s session.looms → s.shift + 1 < length session.shifts
    → (Begins piece (shift_head (s.shift + 1)) → ⊥) → CanFollow session s piece → ⊥
no_head session s piece acts woven more none (Do e, can, b) = acts_over session s e acts can
no_head session s piece acts woven more none (Weave k r, can, b) = woven_over session s k r woven can
no_head session s piece acts woven more none (Begin, can, b) = none b
no_head session s piece acts woven more none (End, can, b) = absurd (omega (arith, more, can.last))

pub no_last : (session : Session) (s : State) (piece : List ℕ) → ActsDone session s → WovenBelow session s session.looms → s.shift + 1 ≡ length session.shifts
    → (Begins piece (end_line (entries_of s)) → ⊥) → CanFollow session s piece → ⊥
no_last session s piece acts woven last none (Do e, can, b) = acts_over session s e acts can
no_last session s piece acts woven last none (Weave k r, can, b) = woven_over session s k r woven can
no_last session s piece acts woven last none (Begin, can, b) = absurd (omega (arith, last, can.more))
no_last session s piece acts woven last none (End, can, b) = none b

-- the numbers of a session are small
pub small : (session : Session) (s : State) → Fits session → Part session s → IsSmall session s
small session s fits p =
    let plan = fits.plans s.shift (record { repeats = []; painters = [] }) p.within in
    record {
      painters = omega (arith, plan.painters);
      versions = omega (arith, count_by-le-length (λ (e : Entry). nat_lt e.shift (s.shift + 1) && is_accepted e.reply) (entries_of s), few_entries session s p, fits.acts);
    }

-- behind the first line of a move
pub read_on : (session : Session) (old : Checker) (piece : List ℕ) (new : Checker) (bytes : List ℕ) → Fits session → Part session (state_of old) → Goes session old piece new → IsLine piece
    → coming_of old ≡ [] → Reaches session bytes (state_of old) (coming_of old) → Holds session new (bytes ++ piece)
read_on session old piece new bytes fits p g is none r =
    let s = state_of old in
    let l = line session s g.move in
    let same : piece ≡ l = line_comes l piece (line_is session s g.move) is g.first in
    let at : Reaches session bytes s [] = subst (λ ls. Reaches session bytes s ls) none r in
    record {
      reached = subst (λ ls. Reaches session (bytes ++ piece) (state_of new) ls) (sym g.coming)
          (subst (λ (x : State). Reaches session (bytes ++ piece) x (more_lines g.move)) (sym g.state)
          (subst (λ (x : List ℕ). Reaches session (bytes ++ x) (go session s g.move) (more_lines g.move)) (sym same) (read_move session bytes s g.move at (small session s fits p) g.can)));
      keeps = g.keeps;
    }

-- behind a line that was to come
pub came : (session : Session) (bytes : List ℕ) (s : State) (coming : List (List ℕ)) (n : ℕ) (d piece : List ℕ) → n < length coming → Begins piece (get_or coming n d) → IsLine piece
    → Reaches session bytes s (drop n coming) → Reaches session (bytes ++ piece) s (drop (n + 1) coming)
came session bytes s coming n d piece h b is r =
    let l = get_or coming n d in
    let at : Reaches session bytes s (l ∷ drop (n + 1) coming) = subst (λ (ls : List (List ℕ)). Reaches session bytes s ls) (drop_cons coming n d h) r in
    subst (λ (x : List ℕ). Reaches session (bytes ++ x) s (drop (n + 1) coming)) (sym (line_comes l piece at.lines.0 is b)) (read_line session bytes s l (drop (n + 1) coming) at)
