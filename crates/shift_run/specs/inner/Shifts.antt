-- What a shift leaves, whether all of it was done or memory was refused.
use Rattle.std.specs.Prelude.{◌≡◌, ℕ, ◌+◌, Bool, MatchBool, List, ◌++◌, map}
use Rattle.version_journal.specs.Journals.{with_motifs}
use Rattle.session_file.specs.Plans.{acts_of_plan}
use Rattle.session_file.specs.declared.session.Session.{Session}
use Rattle.loom_threads.specs.Looms.{LoomValue}
use Rattle.shift_model.specs.Logs.{named_act}
use Rattle.shift_model.specs.Plans.{plan_of}
use Rattle.shift_run.specs.Runs.{AreNewest, GoesOnFrom, HaveRead, IsAtShift, IsCutShort, log_of}
use Rattle.shift_run.specs.declared.desk.Desk.{Desk}

pub record IsDone (session : Session) (k : ℕ) (desk after : Desk) (looms done : List LoomValue) : Type 0 where
  pub at : IsAtShift session (k + 1) after done
  pub read : HaveRead (plan_of session k).repeats looms done
  pub log : GoesOnFrom (log_of desk looms) (log_of after done)

pub record IsShort (session : Session) (k : ℕ) (desk after : Desk) (looms done : List LoomValue) : Type 0 where
  pub short : IsCutShort session k desk after looms done
  pub log : GoesOnFrom (log_of desk looms) (log_of after done)

abbrev pub Leaves : Session → ℕ → Desk → Desk → List LoomValue → List LoomValue → Bool → Type 0
Leaves session k desk after looms done all = MatchBool all (IsDone session k desk after looms done) (IsShort session k desk after looms done)

-- the same of a shift on one thread, whose acts are done in plain order before its repeats
pub record IsDoneAlone (session : Session) (k : ℕ) (desk after : Desk) (looms done : List LoomValue) : Type 0 where
  pub is_done : IsDone session k desk after looms done
  pub newest : AreNewest k after.core.entries done
  pub plain : map (named_act session) after.core.entries ≡ map (named_act session) desk.core.entries ++ with_motifs session.motifs (acts_of_plan (plan_of session k))

abbrev pub LeavesAlone : Session → ℕ → Desk → Desk → List LoomValue → List LoomValue → Bool → Type 0
LeavesAlone session k desk after looms done all = MatchBool all (IsDoneAlone session k desk after looms done) (IsShort session k desk after looms done)
