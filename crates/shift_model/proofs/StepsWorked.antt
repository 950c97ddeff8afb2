-- The run by hand: event by event, and that it has run its session.
use Rattle.std.proofs.Common.{◌≡◌, ℕ, zero, suc, ◌==◌, ◌<◌, Bool, true, cond, List, [], ◌∷◌, Option, Some, None, length, map, get_or, refl, sym, ap, subst, ◌∙◌, arith}
use Rattle.std.specs.Prelude.{All, count_by, fold, slice_index}
use Rattle.std.specs.List.{range_with_len}
use Rattle.std.proofs.lemmas.Bool.Decides.{nat_tests}
use Rattle.mill_base.specs.declared.face.Face.{Face}
use Rattle.point_paper.specs.Papers.{PaperCells}
use Rattle.draft_model.specs.declared.design.Design.{Design}
use Rattle.version_journal.specs.Journals.{ActWithMotif, float_kept, reply_to_commit, versions_after}
use Rattle.version_journal.specs.declared.entry.Entry.{Entry}
use Rattle.version_journal.specs.declared.entry.Reply.{Reply}
use Rattle.version_journal.specs.declared.entry.Reply.TheVariants.{Accepted}
use Rattle.session_file.specs.declared.session.Session.{Session}
use Rattle.session_file.specs.declared.session.ShiftPlan.{ShiftPlan}
use Rattle.shift_model.specs.Logs.{Merge, entries_of_shift, numbers_of_painter}
use Rattle.shift_model.specs.Plans.{acts_of_painter, plan_of}
use Rattle.shift_model.specs.Steps.{HasRun, IsInShift, loom_at, Event, Do, Take, Give, Publish, Begin, Pick, Cut, LoomState, Weaving, World, after_events, beginning, idle, is_whole, row_of, stepped}
use Rattle.shift_model.specs.WorkedSteps.{a_commit, worked_entries, worked_events, worked_plan, worked_world}

-- a world of one loom, on whose way each act was an accepted commit
abbrev stage : PaperCells → List ActWithMotif → List Reply → List PaperCells → ℕ → LoomState → List ℕ → World
stage opening acts replies versions published loom cuts = record {
  acts = acts;
  history = record { paper = opening; replies = replies; versions = versions };
  published = published;
  looms = loom ∷ [];
  results = record { tile = 0; paper = opening } ∷ [];
  cuts = cuts;
}

abbrev loom_with : ℕ → List Weaving → Option Weaving → LoomState
loom_with floor ended unfinished = record { floor = floor; ended = ended; unfinished = unfinished }

abbrev repeat_with : ℕ → ℕ → List (List Bool) → Weaving
repeat_with shift version rows = record { shift = shift; version = version; rows = rows }

whole : (design : Design) (w : Weaving) → design.size.picks ≡ 1 → length w.rows ≡ 1 → is_whole design w ≡ true
whole design w one has = grind (arith, nat_tests)

-- The events that come between are computed; at a commit and at the end of a repeat the premises tell what happens.
pub worked : (design : Design) (opening : PaperCells) (face : Face) → float_kept design opening ≡ None → design.size.picks ≡ 1
    → after_events design opening (face ∷ []) worked_events ≡ worked_world design opening face
worked design opening face free one =
    then (Begin 0 1 ∷ Begin 0 0 ∷ Publish ∷ Publish ∷ Begin 0 1 ∷ Cut ∷ Pick 0 ∷ Give 0 ∷ Cut ∷ Begin 0 0 ∷ Do a_commit ∷ Cut ∷ Begin 0 1 ∷ Publish ∷ Pick 0 ∷ Cut ∷ [])
    (stepped design opening faces (stepped design opening faces (beginning opening faces) (Take 0)) (Do a_commit)) (first 0 idle [])
    (ap (λ float. stage opening (a_commit ∷ []) (reply_to_commit 1 float ∷ []) (versions_after (opening ∷ []) opening float) 0 idle []) free)
    ∙ then (Give 0 ∷ Cut ∷ Begin 0 0 ∷ Do a_commit ∷ Cut ∷ Begin 0 1 ∷ Publish ∷ Pick 0 ∷ Cut ∷ [])
    (stepped design opening faces (first 1 (loom_with 0 [] (Some (repeat_with 0 0 []))) []) (Pick 0)) (first 1 (loom_with 0 (one_repeat ∷ []) None) [])
    (ap (λ full. first 1 (cond full (loom_with 0 (one_repeat ∷ []) None) (loom_with 0 [] (Some one_repeat))) []) (whole design one_repeat one refl))
    ∙ then (Cut ∷ Begin 0 1 ∷ Publish ∷ Pick 0 ∷ Cut ∷ [])
    (stepped design opening faces (first 1 (loom_with 1 (one_repeat ∷ []) None) (1 ∷ [])) (Do a_commit)) (second 1 (loom_with 1 (one_repeat ∷ []) None) (1 ∷ []))
    (ap (λ float. stage opening (a_commit ∷ a_commit ∷ []) (Accepted 1 ∷ reply_to_commit 2 float ∷ []) (versions_after (opening ∷ opening ∷ []) opening float) 1
    (loom_with 1 (one_repeat ∷ []) None) (1 ∷ [])) free)
    ∙ then (Cut ∷ [])
    (stepped design opening faces (second 2 (loom_with 1 (one_repeat ∷ []) (Some (repeat_with 1 1 []))) (1 ∷ [])) (Pick 0))
    (second 2 (loom_with 1 (one_repeat ∷ other_repeat ∷ []) None) (1 ∷ []))
    (ap (λ full. second 2 (cond full (loom_with 1 (one_repeat ∷ other_repeat ∷ []) None) (loom_with 1 (one_repeat ∷ []) (Some other_repeat))) (1 ∷ [])) (whole design other_repeat one refl)) where
      faces : List Face
      faces = face ∷ []

      one_repeat : Weaving
      one_repeat = repeat_with 0 0 (row_of design face opening 0 ∷ [])

      other_repeat : Weaving
      other_repeat = repeat_with 1 1 (row_of design face opening 0 ∷ [])

      first : ℕ → LoomState → List ℕ → World
      first published loom cuts = stage opening (a_commit ∷ []) (Accepted 1 ∷ []) (opening ∷ opening ∷ []) published loom cuts

      second : ℕ → LoomState → List ℕ → World
      second published loom cuts = stage opening (a_commit ∷ a_commit ∷ []) (Accepted 1 ∷ Accepted 2 ∷ []) (opening ∷ opening ∷ opening ∷ []) published loom cuts

      then : (events : List Event) (v w : World) → v ≡ w → fold (stepped design opening faces) v events ≡ fold (stepped design opening faces) w events
      then events v w is = ap (λ x. fold (stepped design opening faces) x events) is

-- the session of the run
abbrev with_parts : Session → Face → Session
with_parts session face = record session { looms = 1; faces = face ∷ []; shifts = worked_plan ∷ worked_plan ∷ [] }

merged : (entry : Entry) → entry.painter ≡ 0 → entry.number ≡ 1 → Merge worked_plan (entry ∷ [])
merged entry by is = record {
  painters = λ k d h. first k d h;
  numbers = λ painter h. subst (λ p. numbers_of_painter p (entry ∷ []) ≡ range_with_len 1 (length (acts_of_painter worked_plan p))) (let e : 0 ≡ painter = omega arith in e) named;
} where
  first : All (λ (e : Entry). e.painter < 1) (entry ∷ [])
  first zero d h = omega arith
  first (suc k) d h = absurd (omega arith)

  named : numbers_of_painter 0 (entry ∷ []) ≡ 1 ∷ []
  named = ap (λ b. map (λ (e : Entry). e.number) (cond b (entry ∷ []) [])) (ap (λ p. p == 0) by) ∙ ap (λ n. n ∷ []) is

ran : (session : Session) (face : Face) → HasRun (with_parts session face) worked_entries (worked_world session.design session.opening face)
ran session face = record {
  cuts = refl;
  acts = refl;
  replied = refl;
  shifts = placed;
  merges = merges;
  closed = closed;
  before = before;
  counts = counts;
} where
  world : World
  world = worked_world session.design session.opening face

  placed : (place : ℕ) → place < 2 → IsInShift (1 ∷ 2 ∷ []) place (get_or (0 ∷ 1 ∷ []) place 0)
  placed zero h = (omega arith, omega arith)
  placed (suc zero) h = (omega arith, omega arith)
  placed (suc (suc place)) h = absurd (omega arith)

  merges : (shift : ℕ) → shift < 2 → Merge (plan_of (with_parts session face) shift) (entries_of_shift shift worked_entries)
  merges zero h = merged (record { shift = 0; painter = 0; number = 1; reply = Accepted 1 }) refl refl
  merges (suc zero) h = merged (record { shift = 1; painter = 0; number = 1; reply = Accepted 2 }) refl refl
  merges (suc (suc shift)) h = absurd (omega arith)

  closed : All (λ (loom : LoomState). loom.unfinished ≡ None) world.looms
  closed zero d h = refl
  closed (suc k) d h = absurd (omega arith)

  low : All (λ (w : Weaving). w.shift < 2) (loom_at world 0).ended
  low zero d h = omega arith
  low (suc zero) d h = omega arith
  low (suc (suc k)) d h = absurd (omega arith)

  before : All (λ (loom : LoomState). All (λ (w : Weaving). w.shift < 2) loom.ended) world.looms
  before zero d h = low
  before (suc k) d h = absurd (omega arith)

  counts : (loom shift : ℕ) → loom < 1 → shift < 2 → count_by (λ (w : Weaving). w.shift == shift) (loom_at world loom).ended ≡ slice_index (plan_of (with_parts session face) shift).repeats loom
  counts zero zero h low = refl
  counts zero (suc zero) h low = refl
  counts zero (suc (suc shift)) h low = absurd (omega arith)
  counts (suc loom) shift h low = absurd (omega arith)

pub worked_run : (session : Session) (face : Face) → float_kept session.design session.opening ≡ None → session.design.size.picks ≡ 1 → session.looms ≡ 1 → session.faces ≡ face ∷ []
    → session.shifts ≡ worked_plan ∷ worked_plan ∷ [] → HasRun session worked_entries (after_events session.design session.opening session.faces worked_events)
worked_run session face free one looms faces shifts =
    subst (λ (f : List Face). HasRun session worked_entries (after_events session.design session.opening f worked_events)) (sym faces)
    (subst (λ (w : World). HasRun session worked_entries w) (sym (worked session.design session.opening face free one))
    (subst (λ (s : List ShiftPlan). HasRun (record session { shifts = s }) worked_entries (worked_world session.design session.opening face)) (sym shifts)
    (subst (λ (f : List Face). HasRun (record session { faces = f; shifts = worked_plan ∷ worked_plan ∷ [] }) worked_entries (worked_world session.design session.opening face)) (sym faces)
    (subst (λ (n : ℕ). HasRun (record session { looms = n; faces = face ∷ []; shifts = worked_plan ∷ worked_plan ∷ [] }) worked_entries (worked_world session.design session.opening face)) (sym looms) (ran session face)))))
