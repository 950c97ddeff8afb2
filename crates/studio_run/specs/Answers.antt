-- What the answer of the studio says.
use Rattle.std.specs.Prelude.{◌≡◌, ◌⊎◌, ℕ, ◌≤◌, Bool, true, false, List, Option, Some, None, IsNone, IsSomeAnd, MatchOption, is_some}
use Rattle.mill_base.specs.Causes.{Rose, risen}
use Rattle.mill_base.specs.declared.limits.TheConstants.{MAX_FILE_BYTES}
use Rattle.mill_io.specs.Files.{File, Stands, StandsInPart}
use Rattle.mill_io.specs.Reads.{HoldsMore}
use Rattle.mill_io.specs.Takes.{TookAll, TookPart}
use Rattle.card_image.specs.Faults.{end_fault}
use Rattle.version_journal.specs.Journals.{float_kept}
use Rattle.version_journal.specs.declared.run_log.RunLog.{RunLog}
use Rattle.session_file.specs.Readings.{HeldIn}
use Rattle.session_file.specs.Sessions.{Breaks, Wants}
use Rattle.session_file.specs.declared.session.Session.{Session as SessionValue}
use Rattle.report_text.specs.declared.cause.Cause.{Cause}
use Rattle.report_text.specs.declared.cause.Cause.TheVariants.{Done, Usage, Session, OpeningFloat, OutOfMemory, ReadFault, WriteFault, TooLong, Chain}
use Rattle.studio_run.specs.declared.command.Command.{Command}
use Rattle.studio_run.specs.declared.command.Command.TheVariants.{Weave, Check, Draw, Paper, Cards, Lift, Trial}
use Rattle.studio_run.specs.Commands.{chain_name, command_of, file_name, reads_file, runs_looms, session_name}
use Rattle.studio_run.specs.Outputs.{IsAbout, IsOfFile, IsOutput, cards_of}

-- what contracts see of a shelf at a moment: its files, its counts of faults, and the name of the read that failed last
pub record ShelfState : Type 0 where
  pub files : Option (List File)
  pub reads : ℕ
  pub writes : ℕ
  pub failed_name : List ℕ

-- what they see of a sink: what it took, and its count of faults
pub record SinkState : Type 0 where
  pub taken : Option (List ℕ)
  pub faults : ℕ

-- what a call found outside, and what it left there
pub record Outside : Type 0 where
  pub shelf_before : ShelfState
  pub shelf : ShelfState
  pub sink_before : SinkState
  pub sink : SinkState

abbrev pub shelf_state : Option (List File) → ℕ → ℕ → List ℕ → ShelfState
shelf_state files reads writes failed_name = record { files = files; reads = reads; writes = writes; failed_name = failed_name }

abbrev pub sink_state : Option (List ℕ) → ℕ → SinkState
sink_state taken faults = record { taken = taken; faults = faults }

abbrev pub outside : ShelfState → ShelfState → SinkState → SinkState → Outside
outside shelf_before shelf sink_before sink = record { shelf_before = shelf_before; shelf = shelf; sink_before = sink_before; sink = sink }

-- nothing was written, and no write failed
pub record KeepsFiles (o : Outside) : Type 0 where
  pub files : o.shelf.files ≡ o.shelf_before.files
  pub writes : o.shelf.writes ≡ o.shelf_before.writes

-- nothing was written or put out, nothing of this failed, and there is no log
pub record IsQuiet (o : Outside) (run_log : Option RunLog) : Type 0 where
  pub files : KeepsFiles o
  pub sink : o.sink ≡ o.sink_before
  pub no_log : run_log ≡ None

-- the bytes were put out: all of them, or a prefix where a put failed
pub record PutAll (o : Outside) (bytes : List ℕ) : Type 0 where
  pub files : KeepsFiles o
  pub faults : o.sink.faults ≡ o.sink_before.faults
  pub taken : TookAll o.sink_before.taken o.sink.taken bytes

pub record PutPart (o : Outside) (bytes : List ℕ) : Type 0 where
  pub files : KeepsFiles o
  pub rose : Rose o.sink_before.faults o.sink.faults
  pub taken : TookPart o.sink_before.taken o.sink.taken bytes

-- the files of a shelf that tells, before and now, go together so; a shelf that does not tell goes on not telling
abbrev pub Changed : Outside → (List File → List File → Type 0) → Type 0
Changed o P = MatchOption o.shelf_before.files (IsNone o.shelf.files) (λ old. IsSomeAnd o.shelf.files (λ new. P old new))

-- the bytes were written under the name: all of them, or where the write failed a prefix, or what stood there stands there still; other names stay
pub record WroteAll (o : Outside) (name bytes : List ℕ) : Type 0 where
  pub sink : o.sink ≡ o.sink_before
  pub writes : o.shelf.writes ≡ o.shelf_before.writes
  pub files : Changed o (λ old new. Stands old new name bytes)

pub record WrotePart (o : Outside) (name bytes : List ℕ) : Type 0 where
  pub sink : o.sink ≡ o.sink_before
  pub rose : Rose o.shelf_before.writes o.shelf.writes
  pub files : Changed o (λ old new. StandsInPart old new name bytes)

-- the output went where the command has it go: whole, or in part
abbrev pub Delivered : Option (List ℕ) → Outside → List ℕ → Type 0
Delivered None o bytes = PutAll o bytes
Delivered (Some name) o bytes = WroteAll o name bytes

abbrev pub DeliveredPart : Option (List ℕ) → Outside → List ℕ → Type 0
DeliveredPart None o bytes = PutPart o bytes
DeliveredPart (Some name) o bytes = WrotePart o name bytes

-- The bytes are the output of the command, about a session whose opening keeps no float.
pub record IsMade (command : Command) (words : List (List ℕ)) (files : Option (List File)) (run_log : Option RunLog) (bytes : List ℕ) : Type 0 where
  pub session : SessionValue
  pub about : IsAbout command words files session
  pub sound : float_kept session.design session.opening ≡ None
  pub output : IsOutput command words files session run_log bytes

-- the output was made, and this holds of it
abbrev pub DidWork : Command → List (List ℕ) → Option (List File) → Option RunLog → (List ℕ → Type 0) → Type 0
DidWork command words files run_log delivered = (bytes : List ℕ) × IsMade command words files run_log bytes × delivered bytes

-- The file of this name is the one whose turn it was: the session's; or the image's that a sound session file names; or the chain's, where the
-- session is one and its opening keeps no float.
abbrev pub IsChainsTurn : Command → List (List ℕ) → Option (List File) → List ℕ → Type 0
IsChainsTurn command words files name =
    (command ≡ Lift) × (name ≡ chain_name words)
    × (session : SessionValue) × IsOfFile words files session × (float_kept session.design session.opening ≡ None)

abbrev pub HasTurn : Command → List (List ℕ) → Option (List File) → List ℕ → Type 0
HasTurn command words files name =
    (reads_file command ≡ true)
    × ((name ≡ session_name words)
    ⊎ ((bytes : List ℕ) × HeldIn files (session_name words) bytes × Wants bytes name)
    ⊎ IsChainsTurn command words files name)

-- Why a command came to no output. Where `rose` holds, the count of read faults rose in this call; `failed` is the name of the read that failed
-- last. Out of memory says nothing, and no other cause comes.
abbrev pub Fails : Command → List (List ℕ) → Option (List File) → Type 0 → List ℕ → Cause → Type 0
Fails command words files rose failed Done = ⊥
Fails command words files rose failed Usage = ⊥
Fails command words files rose failed (Session broken) =
    (reads_file command ≡ true) × (bytes : List ℕ) × HeldIn files (session_name words) bytes × Breaks (HeldIn files) bytes broken
Fails command words files rose failed (OpeningFloat float) =
    (session : SessionValue) × IsAbout command words files session × (float_kept session.design session.opening ≡ Some float)
Fails command words files rose failed OutOfMemory = Unit {0}
Fails command words files rose failed (ReadFault name) = HasTurn command words files name × rose × (failed ≡ name)
Fails command words files rose failed WriteFault = ⊥
Fails command words files rose failed (TooLong name) = HasTurn command words files name × HoldsMore files name MAX_FILE_BYTES
Fails command words files rose failed (Chain broken) =
    (command ≡ Lift) × (session : SessionValue) × IsOfFile words files session × (float_kept session.design session.opening ≡ None)
    × (chain : List ℕ) × HeldIn files (chain_name words) chain × (end_fault (cards_of session) chain ≡ Some broken)

abbrev pub FailsQuietly : Command → List (List ℕ) → Outside → Option RunLog → Cause → Type 0
FailsQuietly command words o run_log cause =
    Fails command words o.shelf_before.files (Rose o.shelf_before.reads o.shelf.reads) o.shelf.failed_name cause × IsQuiet o run_log

-- What each cause says of a command and of this call.
abbrev pub IsEndOf : Command → List (List ℕ) → Outside → Option RunLog → Cause → Type 0
IsEndOf command words o run_log Done = DidWork command words o.shelf_before.files run_log (Delivered (file_name command words) o)
IsEndOf command words o run_log Usage = ⊥
IsEndOf command words o run_log (Session broken) = FailsQuietly command words o run_log (Session broken)
IsEndOf command words o run_log (OpeningFloat float) = FailsQuietly command words o run_log (OpeningFloat float)
IsEndOf command words o run_log OutOfMemory = FailsQuietly command words o run_log OutOfMemory
IsEndOf command words o run_log (ReadFault name) = FailsQuietly command words o run_log (ReadFault name)
IsEndOf command words o run_log WriteFault = DidWork command words o.shelf_before.files run_log (DeliveredPart (file_name command words) o)
IsEndOf command words o run_log (TooLong name) = FailsQuietly command words o run_log (TooLong name)
IsEndOf command words o run_log (Chain broken) = FailsQuietly command words o run_log (Chain broken)

-- the count of read faults after an end, and the name of the read that failed last: one more, and the name that is told, where a file could not be
-- read; else both are as before
abbrev pub reads_at : ℕ → Cause → ℕ
reads_at before (ReadFault name) = risen before
reads_at before other = before

abbrev pub name_at : List ℕ → Cause → List ℕ
name_at before (ReadFault name) = name
name_at before other = before

-- Words that ask for nothing are told at once; else the command has come to its end.
abbrev pub IsCausedBy : Option Command → List (List ℕ) → Outside → Option RunLog → Cause → Type 0
IsCausedBy None words o run_log cause = (cause ≡ Usage) × IsQuiet o run_log
IsCausedBy (Some command) words o run_log cause = IsEndOf command words o run_log cause

-- a log goes with the commands that run looms, once they were run
abbrev pub has_run : Option Command → Cause → Bool
has_run None cause = false
has_run (Some command) Done = runs_looms command
has_run (Some command) WriteFault = runs_looms command
has_run (Some command) Usage = false
has_run (Some command) (Session broken) = false
has_run (Some command) (OpeningFloat float) = false
has_run (Some command) OutOfMemory = false
has_run (Some command) (ReadFault name) = false
has_run (Some command) (TooLong name) = false
has_run (Some command) (Chain broken) = false

-- The words are a command, the files that it reads are there and not too long, they denote a session whose opening keeps no float, and for `lift`
-- the chain's file is a chain of the design.
abbrev pub HasChain : Command → List (List ℕ) → Option (List File) → SessionValue → Type 0
HasChain Lift words files session = (chain : List ℕ) × HeldIn files (chain_name words) chain × (end_fault (cards_of session) chain ≡ None)
HasChain Weave words files session = Unit {0}
HasChain Check words files session = Unit {0}
HasChain Draw words files session = Unit {0}
HasChain Paper words files session = Unit {0}
HasChain (Cards face) words files session = Unit {0}
HasChain (Trial n) words files session = Unit {0}

pub record IsGood (words : List (List ℕ)) (held : List File) : Type 0 where
  pub command : Command
  pub session : SessionValue
  pub asked : command_of words ≡ Some command
  pub about : IsAbout command words (Some held) session
  pub sound : float_kept session.design session.opening ≡ None
  pub chain : HasChain command words (Some held) session
