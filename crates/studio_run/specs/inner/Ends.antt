-- What the parts of a command come to.
use Rattle.std.specs.Prelude.{◌≡◌, ◌≤◌, ℕ, Bool, List, length, All, Option, Some, None, Result, Ok, Err}
use Rattle.mill_base.specs.declared.face.Face.{Face}
use Rattle.mill_base.specs.declared.limits.TheConstants.{MAX_FILE_BYTES}
use Rattle.mill_io.specs.Files.{File}
use Rattle.mill_base.specs.Causes.{Rose}
use Rattle.mill_io.specs.Reads.{HoldsMore}
use Rattle.mill_io.specs.Takes.{TookAll, TookPart}
use Rattle.tiff_palette.specs.Written.{tiff_of}
use Rattle.card_image.specs.Chains.{Chain as IsChain}
use Rattle.card_image.specs.Faults.{end_fault}
use Rattle.cloth_files.specs.Cards.{cloth_of_cards}
use Rattle.cloth_files.specs.Images.{cloth_image}
use Rattle.version_journal.specs.Journals.{float_kept}
use Rattle.version_journal.specs.declared.run_log.RunLog.{RunLog}
use Rattle.session_file.specs.declared.session.Session.{Session as SessionValue}
use Rattle.report_text.specs.declared.cause.Cause.{Cause}
use Rattle.report_text.specs.declared.cause.Cause.TheVariants.{Done, Usage, Session, OpeningFloat, OutOfMemory, ReadFault, WriteFault, TooLong, Chain}
use Rattle.studio_run.specs.declared.command.Command.{Command}
use Rattle.studio_run.specs.declared.command.Command.TheVariants.{Weave, Check, Draw, Paper, Cards, Lift, Trial}
use Rattle.studio_run.specs.Answers.{Delivered, DeliveredPart, Outside, SinkState, name_at, reads_at}
use Rattle.session_file.specs.Readings.{HeldIn}
use Rattle.studio_run.specs.Outputs.{IsOutput, cards_of}

-- the bytes are the output of a command about this session, whose opening keeps no float, whatever the words and the files are
pub record Made (command : Command) (session : SessionValue) (run_log : Option RunLog) (bytes : List ℕ) : Type 0 where
  pub sound : float_kept session.design session.opening ≡ None
  pub output : (words : List (List ℕ)) (files : Option (List File)) → IsOutput command words files session run_log bytes

-- where a command tells of the plain order of the acts, each shift of its session has one painter at most
abbrev pub FixesOrder : Command → SessionValue → Type 0
FixesOrder (Trial n) session = All (λ plan. length plan.painters ≤ 1) session.shifts
FixesOrder other session = Unit {0}

-- the count of read faults once something was made, or came to a cause, and the name of the read that failed last
abbrev pub reads_after : {T : Type 0} → ℕ → Result T Cause → ℕ
reads_after before (Ok made) = before
reads_after before (Err cause) = reads_at before cause

abbrev pub name_after : {T : Type 0} → List ℕ → Result T Cause → List ℕ
name_after before (Ok made) = before
name_after before (Err cause) = name_at before cause

-- a session comes to no output where its opening keeps a float, or where memory is refused
abbrev pub Refuses : SessionValue → Cause → Type 0
Refuses session (OpeningFloat float) = float_kept session.design session.opening ≡ Some float
Refuses session OutOfMemory = Unit {0}
Refuses session other = ⊥

-- the end once there is an output: it went where it was to go, or in part
abbrev pub IsDelivery : Option (List ℕ) → Outside → List ℕ → Cause → Type 0
IsDelivery name o bytes Done = Delivered name o bytes
IsDelivery name o bytes WriteFault = DeliveredPart name o bytes
IsDelivery name o bytes other = ⊥

-- the end of a run: its output was put out, whole or in part, or nothing was
abbrev pub IsRun : Command → SessionValue → SinkState → SinkState → Option RunLog → Cause → Type 0
IsRun command session before now run_log Done =
    (bytes : List ℕ) × Made command session run_log bytes × (now.faults ≡ before.faults) × TookAll before.taken now.taken bytes
IsRun command session before now run_log (OpeningFloat float) = (float_kept session.design session.opening ≡ Some float) × (now ≡ before) × (run_log ≡ None)
IsRun command session before now run_log OutOfMemory = (now ≡ before) × (run_log ≡ None)
IsRun command session before now run_log WriteFault =
    (bytes : List ℕ) × Made command session run_log bytes × Rose before.faults now.faults × TookPart before.taken now.taken bytes
IsRun command session before now run_log other = ⊥

-- ---- the command `lift`

-- the bytes are the image of what the chain lifts
pub record IsLiftedFrom (session : SessionValue) (chain bytes : List ℕ) : Type 0 where
  pub sound : end_fault (cards_of session) chain ≡ None
  pub face : Face
  pub cards : List (List Bool)
  pub is_chain : IsChain (cards_of session) chain face cards
  pub image : bytes ≡ tiff_of (cloth_image (cloth_of_cards session.design face cards))

-- the file of the name has a chain whose lifting gives these bytes, and the opening of the session keeps no float
pub record IsLifted (session : SessionValue) (files : Option (List File)) (name bytes : List ℕ) : Type 0 where
  pub opening : float_kept session.design session.opening ≡ None
  pub chain : List ℕ
  pub held : HeldIn files name chain
  pub lifted : IsLiftedFrom session chain bytes

abbrev pub IsChainFault : SessionValue → List ℕ → Cause → Type 0
IsChainFault session chain OutOfMemory = Unit {0}
IsChainFault session chain (Chain broken) = end_fault (cards_of session) chain ≡ Some broken
IsChainFault session chain other = ⊥

-- a file was not read: the read failed in this call, or there is too much in it
abbrev pub IsUnread : Option (List File) → List ℕ → Type 0 → List ℕ → Cause → Type 0
IsUnread files name rose failed OutOfMemory = Unit {0}
IsUnread files name rose failed (ReadFault told) = (told ≡ name) × rose × (failed ≡ told)
IsUnread files name rose failed (TooLong told) = (told ≡ name) × HoldsMore files name MAX_FILE_BYTES
IsUnread files name rose failed other = ⊥

-- why a chain was not lifted
abbrev pub FailsToLift : SessionValue → Option (List File) → List ℕ → Type 0 → List ℕ → Cause → Type 0
FailsToLift session files name rose failed (OpeningFloat float) = float_kept session.design session.opening ≡ Some float
FailsToLift session files name rose failed OutOfMemory = Unit {0}
FailsToLift session files name rose failed (ReadFault told) = (told ≡ name) × (float_kept session.design session.opening ≡ None) × rose × (failed ≡ told)
FailsToLift session files name rose failed (TooLong told) = (told ≡ name) × (float_kept session.design session.opening ≡ None) × HoldsMore files name MAX_FILE_BYTES
FailsToLift session files name rose failed (Chain broken) =
    (float_kept session.design session.opening ≡ None) × (chain : List ℕ) × HeldIn files name chain × (end_fault (cards_of session) chain ≡ Some broken)
FailsToLift session files name rose failed other = ⊥
