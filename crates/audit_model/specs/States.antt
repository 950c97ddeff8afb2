-- Where a report has come to, and what may come next.
use Rattle.std.specs.Prelude.{◌≡◌, ℕ, suc, ◌+◌, ◌^◌, ◌<◌, ◌≤◌, Bool, true, false, List, [], ◌∷◌, ◌++◌, length, map, slice_index, slice_index_or, slice_set, replicate, if◌then◌else◌, All}
use Rattle.std.specs.List.{range_with_len}
use Rattle.std.specs.List.Sorted.{IsNonDecreasing}
use Rattle.mill_base.specs.declared.face.Face.{Face}
use Rattle.mill_base.specs.declared.face.Face.TheVariants.{Up}
use Rattle.point_paper.specs.Papers.{PaperCells}
use Rattle.strokes.specs.declared.act.Act.{Act}
use Rattle.draft_model.specs.declared.design.Design.{Design}
use Rattle.version_journal.specs.Journals.{ActWithMotif, History, float_kept, history, is_commit, replies, reply_to_commit, versions}
use Rattle.version_journal.specs.declared.entry.Entry.{Entry}
use Rattle.version_journal.specs.declared.entry.Reply.{Reply}
use Rattle.version_journal.specs.declared.entry.Reply.TheVariants.{Painted}
use Rattle.version_journal.specs.declared.run_log.Repeat.{Repeat}
use Rattle.version_journal.specs.declared.run_log.RunLog.{RunLog}
use Rattle.session_file.specs.declared.session.Session.{Session}
use Rattle.loom_threads.specs.Woven.{IsWoven}
use Rattle.shift_model.specs.Plans.{plan_of, acts_of_painter}
use Rattle.shift_model.specs.Logs.{LegalBefore, Legal, accepted_before, named_act, numbers_of_painter}
use Rattle.report_text.specs.Reports.{act_line, loom_line, report}
use Rattle.audit_model.specs.Audits.{Begins}
use Rattle.audit_model.specs.Lines.{end_line, report_of_shifts, shift_head, shown_lines}

-- the acts that entries name, and the side that a loom's cloth has upwards
abbrev pub named_acts : Session → List Entry → List ActWithMotif
named_acts session entries = map (named_act session) entries

abbrev pub face_of : Session → ℕ → Face
face_of session loom = slice_index_or session.faces loom Up

-- A shift, all that was done in the shifts before it, and what was done of it so far: entries, and the repeats of each loom. It has ended
-- where the report's last line was read.
pub record State : Type 0 where
  pub shift : ℕ
  pub before : RunLog
  pub new : List Entry
  pub woven : List (List Repeat)
  pub ended : Bool

abbrev pub woven_of : State → ℕ → List Repeat
woven_of state loom = slice_index_or state.woven loom []

-- all that was done so far
abbrev pub entries_of : State → List Entry
entries_of state = state.before.entries ++ state.new

abbrev pub repeats_of : State → ℕ → List Repeat
repeats_of state loom = slice_index_or state.before.looms loom [] ++ woven_of state loom

abbrev pub log_of : Session → State → RunLog
log_of session state = record { entries = entries_of state; looms = map (repeats_of state) (range_with_len 0 session.looms) }

-- how many acts of a painter are done
abbrev pub done_of : State → ℕ → ℕ
done_of state painter = length (numbers_of_painter painter state.new)

abbrev pub painters_of : Session → State → ℕ
painters_of session state = length (plan_of session state.shift).painters

abbrev pub stated_acts : Session → State → ℕ → ℕ
stated_acts session state painter = length (acts_of_painter (plan_of session state.shift) painter)

abbrev pub stated_repeats : Session → State → ℕ → ℕ
stated_repeats session state loom = slice_index (plan_of session state.shift).repeats loom

pub record ActsDone (session : Session) (state : State) : Type 0 where
  pub each : (painter : ℕ) → painter < painters_of session state → done_of state painter ≡ stated_acts session state painter

-- the repeats of the looms below are woven
pub record WovenBelow (session : Session) (state : State) (loom : ℕ) : Type 0 where
  pub each : (j : ℕ) → j < loom → length (woven_of state j) ≡ stated_repeats session state j

pub record AllDone (session : Session) (state : State) : Type 0 where
  pub acts : ActsDone session state
  pub repeats : WovenBelow session state session.looms

-- the reply to a commit, and to any act, that comes behind others
abbrev pub commit_reply : Design → History → Reply
commit_reply design h = reply_to_commit (length h.versions) (float_kept design h.paper)

abbrev pub reply_for : Act → Reply → Reply
reply_for act commit = if is_commit act then commit else Painted

abbrev pub reply_to : Design → History → ActWithMotif → Reply
reply_to design h act = reply_for act.act (commit_reply design h)

abbrev pub history_of : Session → State → History
history_of session state = history session.design session.opening (named_acts session (entries_of state))

-- the versions that the looms may weave
abbrev pub versions_of : Session → State → List PaperCells
versions_of session state = versions session.design session.opening (named_acts session (entries_of state))

-- what comes next: an act, a repeat, the next shift, or the end
pub data Move : Type 0 where
  Do : Entry → Move
  Weave : ℕ → Repeat → Move
  Begin : Move
  End : Move

-- the next act of a painter, with the reply that it gets now
pub record CanDo (session : Session) (state : State) (entry : Entry) : Type 0 where
  pub going : state.ended ≡ false
  pub shift : entry.shift ≡ state.shift
  pub painter : entry.painter < painters_of session state
  pub number : entry.number ≡ done_of state entry.painter + 1
  pub left : done_of state entry.painter < stated_acts session state entry.painter
  pub reply : entry.reply ≡ reply_to session.design (history_of session state) (named_act session entry)

-- once all acts of the shift are done and the looms below have woven: one more repeat, of a version that is no older than the loom's last,
-- no older than the shift's first and no newer than the shift's last
pub record CanWeave (session : Session) (state : State) (loom : ℕ) (woven : Repeat) : Type 0 where
  pub going : state.ended ≡ false
  pub acts : ActsDone session state
  pub below : WovenBelow session state loom
  pub there : loom < session.looms
  pub left : length (woven_of state loom) < stated_repeats session state loom
  pub shift : woven.shift ≡ state.shift
  pub no_older : accepted_before state.shift (entries_of state) ≤ woven.version
  pub no_newer : woven.version ≤ accepted_before (state.shift + 1) (entries_of state)
  pub rises : All (λ earlier. earlier.version ≤ woven.version) (woven_of state loom)
  pub is : IsWoven session.design session.show_rows (face_of session loom) (versions_of session state) woven

pub record CanBegin (session : Session) (state : State) : Type 0 where
  pub going : state.ended ≡ false
  pub done : AllDone session state
  pub more : state.shift + 1 < length session.shifts

pub record CanEnd (session : Session) (state : State) : Type 0 where
  pub going : state.ended ≡ false
  pub done : AllDone session state
  pub last : state.shift + 1 ≡ length session.shifts

abbrev pub Can : Session → State → Move → Type 0
Can session state (Do entry) = CanDo session state entry
Can session state (Weave loom woven) = CanWeave session state loom woven
Can session state Begin = CanBegin session state
Can session state End = CanEnd session state

abbrev pub go : Session → State → Move → State
go session state (Do entry) = record { shift = state.shift; before = state.before; new = state.new ++ entry ∷ []; woven = state.woven; ended = state.ended }
go session state (Weave loom woven) = record {
  shift = state.shift;
  before = state.before;
  new = state.new;
  woven = slice_set state.woven loom (woven_of state loom ++ woven ∷ []);
  ended = state.ended;
}
go session state Begin = record { shift = state.shift + 1; before = log_of session state; new = []; woven = replicate session.looms []; ended = state.ended }
go session state End = record { shift = state.shift; before = state.before; new = state.new; woven = state.woven; ended = true }

-- the first line of a move, and those behind it
abbrev pub line : Session → State → Move → List ℕ
line session state (Do entry) = act_line (length (entries_of state)) entry
line session state (Weave loom woven) = loom_line (face_of session loom) loom (length (repeats_of state loom)) woven
line session state Begin = shift_head (state.shift + 1)
line session state End = end_line (entries_of state)

abbrev pub more_lines : Move → List (List ℕ)
more_lines (Do entry) = []
more_lines (Weave loom woven) = shown_lines woven.rows
more_lines Begin = []
more_lines End = []

-- the report so far
abbrev pub text : Session → State → List ℕ
text session state = report_of_shifts session (log_of session state) (suc state.shift) ++ (if state.ended then end_line (entries_of state) else [])

-- the numbers of each painter of the plan are 1, 2, .., and no more than its acts
pub record MergesPart (session : Session) (state : State) : Type 0 where
  pub painters : All (λ entry. entry.painter < painters_of session state) state.new
  pub numbers : (painter : ℕ) → painter < painters_of session state → numbers_of_painter painter state.new ≡ range_with_len 1 (done_of state painter)
  pub few : (painter : ℕ) → painter < painters_of session state → done_of state painter ≤ stated_acts session state painter

-- the part of a loom in the shift so far
pub record WovePart (session : Session) (state : State) (loom : ℕ) : Type 0 where
  pub of_shift : All (λ woven. woven.shift ≡ state.shift) (woven_of state loom)
  pub versions_rise : IsNonDecreasing (map (λ woven. woven.version) (woven_of state loom))
  pub no_older : All (λ woven. accepted_before state.shift (entries_of state) ≤ woven.version) (woven_of state loom)
  pub no_newer : All (λ woven. woven.version ≤ accepted_before (state.shift + 1) (entries_of state)) (woven_of state loom)
  pub are : All (IsWoven session.design session.show_rows (face_of session loom) (versions_of session state)) (woven_of state loom)
  pub few : length (woven_of state loom) ≤ stated_repeats session state loom
  -- a loom weaves once all acts are done and all looms below have woven
  pub order : 0 < length (woven_of state loom) → ActsDone session state × WovenBelow session state loom

-- the numbers by which moves of one state differ are small enough to be written
pub record IsSmall (session : Session) (state : State) : Type 0 where
  pub painters : painters_of session state < 2 ^ 64
  pub versions : accepted_before (state.shift + 1) (entries_of state) < 2 ^ 64

-- a part of a legal log, in the order of the report
pub record Part (session : Session) (state : State) : Type 0 where
  pub legal : LegalBefore session state.before state.shift
  pub within : state.shift < length session.shifts
  pub looms : length state.woven ≡ session.looms
  pub of_shift : All (λ entry. entry.shift ≡ state.shift) state.new
  pub merges : MergesPart session state
  pub replied : map (λ entry. entry.reply) (entries_of state) ≡ replies session.design session.opening (named_acts session (entries_of state))
  pub repeats : (loom : ℕ) → loom < session.looms → WovePart session state loom
  pub ended : state.ended ≡ true → AllDone session state × (state.shift + 1 ≡ length session.shifts)

-- the log goes on from here
pub record Extends (session : Session) (state : State) (log : RunLog) : Type 0 where
  pub entries : Begins (entries_of state) log.entries
  pub repeats : (loom : ℕ) → loom < session.looms → Begins (repeats_of state loom) (slice_index_or log.looms loom [])

-- before the first line
abbrev pub start : Session → State
start session = record { shift = 0; before = record { entries = []; looms = replicate session.looms [] }; new = []; woven = replicate session.looms []; ended = false }

-- the next line of a report may be this one, or begin with it
abbrev pub CanFollow : Session → State → List ℕ → Type 0
CanFollow session state bytes = (move : Move) × Can session state move × Begins bytes (line session state move)
