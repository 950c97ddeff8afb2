-- The end of a command, from what its parts came to.
use Rattle.std.proofs.Common.{◌≡◌, ℕ, ◌≤◌, Bool, true, false, List, Option, Some, None, IsNone, IsSomeAnd, MatchOption, Result, Ok, Err, IfOk, IfErr, Vec, inl, inr, is_some, refl, sym, ap, subst, ◌∙◌, arith}
use Rattle.std.specs.declared.alloc.Global.{Global}
use Rattle.mill_base.specs.Causes.{Rose, risen}
use Rattle.mill_base.specs.declared.limits.TheConstants.{MAX_FILE_BYTES}
use Rattle.mill_io.specs.Files.{File, Stands, StandsInPart}
use Rattle.mill_io.specs.Reads.{HoldsMore}
use Rattle.version_journal.specs.declared.run_log.RunLog.{RunLog}
use Rattle.session_rules.specs.declared.fault.SessionRefusal.{SessionRefusal}
use Rattle.session_rules.specs.declared.fault.SessionRefusal.TheVariants.{Fault, ReadFault as NotRead, TooLong as TooManyBytes, OutOfMemory as NoMemory}
use Rattle.session_file.specs.Readings.{IsRefusal, after_refusal, told_name}
use Rattle.session_file.specs.declared.session.Session.{Session as SessionValue}
use Rattle.report_text.specs.Causes.{cause_of}
use Rattle.report_text.specs.declared.cause.Cause.{Cause}
use Rattle.report_text.specs.declared.cause.Cause.TheVariants.{Done, Usage, Session, OpeningFloat, OutOfMemory, ReadFault, WriteFault, TooLong, Chain}
use Rattle.studio_run.specs.declared.command.Command.{Command}
use Rattle.studio_run.specs.declared.command.Command.TheVariants.{Weave, Check, Draw, Paper, Cards, Lift, Trial}
use Rattle.studio_run.specs.Answers.{Delivered, DeliveredPart, Fails, IsCausedBy, IsEndOf, IsMade, IsQuiet, KeepsFiles, Outside, ShelfState, SinkState, has_run, name_at, reads_at}
use Rattle.studio_run.specs.Commands.{chain_name, file_name, reads_file, runs_looms, session_name}
use Rattle.studio_run.specs.Outputs.{IsAbout, IsOfFile, IsOutput}
use Rattle.studio_run.specs.inner.Ends.{FailsToLift, IsChainFault, IsDelivery, IsLifted, IsRun, Made, Refuses}

at_most_itself : (n : ℕ) → n ≤ n
at_most_itself n = omega arith

-- a session that was not read
pub unread_fails : (command : Command) (words : List (List ℕ)) (files : Option (List File)) (before now : ℕ) (failed failed_before : List ℕ) (refusal : SessionRefusal)
    → reads_file command ≡ true → now ≡ after_refusal before (risen before) refusal → failed ≡ told_name failed_before refusal
    → IsRefusal files (session_name words) refusal → Fails command words files (Rose before now) failed (cause_of refusal)
unread_fails command words files before now failed failed_before (Fault broken) reads rose named is = (reads, is.0, is.1, is.2)
unread_fails command words files before now failed failed_before (NotRead told) reads rose named (inl is) =
    ((reads, inl is), subst (λ (n : ℕ). risen before ≤ n) (sym rose) (at_most_itself (risen before)), named)
unread_fails command words files before now failed failed_before (NotRead told) reads rose named (inr is) =
    ((reads, inr (inl is)), subst (λ (n : ℕ). risen before ≤ n) (sym rose) (at_most_itself (risen before)), named)
unread_fails command words files before now failed failed_before (TooManyBytes told) reads rose named (inl is) =
    ((reads, inl is.0), subst (λ (n : List ℕ). HoldsMore files n MAX_FILE_BYTES) (sym is.0) is.1)
unread_fails command words files before now failed failed_before (TooManyBytes told) reads rose named (inr is) =
    ((reads, inr (inl (is.0, is.1, is.2))), is.3)
unread_fails command words files before now failed failed_before NoMemory reads rose named is = tt

-- the session of a file
pub about_file : (command : Command) (words : List (List ℕ)) (files : Option (List File)) (session : SessionValue) → reads_file command ≡ true
    → IsOfFile words files session → IsAbout command words files session
about_file Weave words files session reads is = is
about_file Check words files session reads is = is
about_file Draw words files session reads is = is
about_file Paper words files session reads is = is
about_file (Cards face) words files session reads is = is
about_file Lift words files session reads is = is
about_file (Trial n) words files session reads is = absurd cc

pub reads_unless_trial : (command : Command) → ((n : ℕ) → command ≡ Trial n → ⊥) → reads_file command ≡ true
reads_unless_trial Weave other = refl
reads_unless_trial Check other = refl
reads_unless_trial Draw other = refl
reads_unless_trial Paper other = refl
reads_unless_trial (Cards face) other = refl
reads_unless_trial Lift other = refl
reads_unless_trial (Trial n) other = absurd (other n refl)

-- what was made of a session is the output of the command
pub made_output : (command : Command) (words : List (List ℕ)) (files : Option (List File)) (session : SessionValue) (bytes : List ℕ)
    → IsAbout command words files session → Made command session None bytes → IsMade command words files None bytes
made_output command words files session bytes about made =
    record { session = session; about = about; sound = made.sound; output = made.output words files }

-- why it was not made
pub refused_fails : (command : Command) (words : List (List ℕ)) (files : Option (List File)) (rose : Type 0) (failed : List ℕ) (session : SessionValue) (cause : Cause)
    → IsAbout command words files session → Refuses session cause → Fails command words files rose failed cause
refused_fails command words files rose failed session Done about is = is
refused_fails command words files rose failed session Usage about is = is
refused_fails command words files rose failed session (Session broken) about is = absurd is
refused_fails command words files rose failed session (OpeningFloat float) about is = (session, about, is)
refused_fails command words files rose failed session OutOfMemory about is = tt
refused_fails command words files rose failed session (ReadFault name) about is = absurd is
refused_fails command words files rose failed session WriteFault about is = is
refused_fails command words files rose failed session (TooLong name) about is = absurd is
refused_fails command words files rose failed session (Chain broken) about is = absurd is

-- the same before a read that left the shelf as it was
pub fails_from : {T : Type 0} (result : Result T Cause) (command : Command) (words : List (List ℕ)) (files later : Option (List File)) (before mid now : ℕ) (failed : List ℕ)
    → later ≡ files → mid ≡ before → IfErr result (Fails command words later (Rose mid now) failed) → IfErr result (Fails command words files (Rose before now) failed)
fails_from result command words files later before mid now failed same still is =
    subst (λ (f : Option (List File)). IfErr result (Fails command words f (Rose before now) failed)) same
    (subst (λ (n : ℕ). IfErr result (Fails command words later (Rose n now) failed)) still is)

-- what was made, where something was
pub made_result : (result : Result (Vec ℕ Global) Cause) (command : Command) (words : List (List ℕ)) (files : Option (List File)) (session : SessionValue)
    → IsAbout command words files session → IfOk result (λ bytes. Made command session None bytes.items) → IfOk result (λ bytes. IsMade command words files None bytes.items)
made_result (Ok bytes) command words files session about made = made_output command words files session bytes.items about made
made_result (Err cause) command words files session about made = made

-- what was lifted
pub lifted_output : (words : List (List ℕ)) (files : Option (List File)) (session : SessionValue) (bytes : List ℕ)
    → IsAbout Lift words files session → IsLifted session files (chain_name words) bytes → IsMade Lift words files None bytes
lifted_output words files session bytes about is = record {
  session = session;
  about = about;
  sound = is.opening;
  output = (refl, is.chain, is.held, is.lifted.sound, is.lifted.face, is.lifted.cards, is.lifted.is_chain, is.lifted.image);
}

pub lifting_fails : (words : List (List ℕ)) (files : Option (List File)) (rose : Type 0) (failed : List ℕ) (session : SessionValue) (cause : Cause)
    → IsAbout Lift words files session → FailsToLift session files (chain_name words) rose failed cause → Fails Lift words files rose failed cause
lifting_fails words files rose failed session Done about is = is
lifting_fails words files rose failed session Usage about is = is
lifting_fails words files rose failed session (Session broken) about is = absurd is
lifting_fails words files rose failed session (OpeningFloat float) about is = (session, about, is)
lifting_fails words files rose failed session OutOfMemory about is = tt
lifting_fails words files rose failed session (ReadFault told) about is = ((refl, inr (inr (refl, is.0, session, about, is.1))), is.2, is.3)
lifting_fails words files rose failed session WriteFault about is = is
lifting_fails words files rose failed session (TooLong told) about is =
    ((refl, inr (inr (refl, is.0, session, about, is.1))), subst (λ (n : List ℕ). HoldsMore files n MAX_FILE_BYTES) (sym is.0) is.2)
lifting_fails words files rose failed session (Chain broken) about is = (refl, session, about, is.0, is.1, is.2, is.3)

-- a failure is an end
pub failed_end : (command : Command) (words : List (List ℕ)) (o : Outside) (run_log : Option RunLog) (cause : Cause)
    → Fails command words o.shelf_before.files (Rose o.shelf_before.reads o.shelf.reads) o.shelf.failed_name cause → IsQuiet o run_log → IsEndOf command words o run_log cause
failed_end command words o run_log Done is quiet = absurd is
failed_end command words o run_log Usage is quiet = is
failed_end command words o run_log (Session broken) is quiet = (is, quiet)
failed_end command words o run_log (OpeningFloat float) is quiet = (is, quiet)
failed_end command words o run_log OutOfMemory is quiet = (is, quiet)
failed_end command words o run_log (ReadFault name) is quiet = (is, quiet)
failed_end command words o run_log WriteFault is quiet = absurd is
failed_end command words o run_log (TooLong name) is quiet = (is, quiet)
failed_end command words o run_log (Chain broken) is quiet = (is, quiet)

-- where the shelf has the same files and counts of writes before it, what was delivered is the same
pub delivered_from : (name : Option (List ℕ)) (before later : ShelfState) (now : ShelfState) (sink_before sink : SinkState) (bytes : List ℕ)
    → later.files ≡ before.files → later.writes ≡ before.writes
    → Delivered name (record { shelf_before = later; shelf = now; sink_before = sink_before; sink = sink }) bytes
    → Delivered name (record { shelf_before = before; shelf = now; sink_before = sink_before; sink = sink }) bytes
delivered_from None before later now sink_before sink bytes files writes is = record {
  files = record { files = is.files.files ∙ files; writes = is.files.writes ∙ writes };
  faults = is.faults;
  taken = is.taken;
}
delivered_from (Some name) before later now sink_before sink bytes files writes is = record {
  sink = is.sink;
  writes = is.writes ∙ writes;
  files = subst (λ (f : Option (List File)). MatchOption f (IsNone now.files) (λ old. IsSomeAnd now.files (λ new. Stands old new name bytes))) files is.files;
}

pub part_delivered_from : (name : Option (List ℕ)) (before later : ShelfState) (now : ShelfState) (sink_before sink : SinkState) (bytes : List ℕ)
    → later.files ≡ before.files → later.writes ≡ before.writes
    → DeliveredPart name (record { shelf_before = later; shelf = now; sink_before = sink_before; sink = sink }) bytes
    → DeliveredPart name (record { shelf_before = before; shelf = now; sink_before = sink_before; sink = sink }) bytes
part_delivered_from None before later now sink_before sink bytes files writes is = record {
  files = record { files = is.files.files ∙ files; writes = is.files.writes ∙ writes };
  rose = is.rose;
  taken = is.taken;
}
part_delivered_from (Some name) before later now sink_before sink bytes files writes is = record {
  sink = is.sink;
  rose = subst (λ (n : ℕ). risen n ≤ now.writes) writes is.rose;
  files = subst (λ (f : Option (List File)). MatchOption f (IsNone now.files) (λ old. IsSomeAnd now.files (λ new. StandsInPart old new name bytes))) files is.files;
}

-- what was made and went where it was to go is an end
pub delivered_end : (command : Command) (words : List (List ℕ)) (before later now : ShelfState) (sink_before sink : SinkState) (bytes : List ℕ) (cause : Cause)
    → IsMade command words before.files None bytes → later.files ≡ before.files → later.writes ≡ before.writes
    → IsDelivery (file_name command words) (record { shelf_before = later; shelf = now; sink_before = sink_before; sink = sink }) bytes cause
    → IsEndOf command words (record { shelf_before = before; shelf = now; sink_before = sink_before; sink = sink }) None cause
delivered_end command words before later now sink_before sink bytes Done made files writes is =
    (bytes, made, delivered_from (file_name command words) before later now sink_before sink bytes files writes is)
delivered_end command words before later now sink_before sink bytes Usage made files writes is = is
delivered_end command words before later now sink_before sink bytes (Session broken) made files writes is = absurd is
delivered_end command words before later now sink_before sink bytes (OpeningFloat float) made files writes is = absurd is
delivered_end command words before later now sink_before sink bytes OutOfMemory made files writes is = absurd is
delivered_end command words before later now sink_before sink bytes (ReadFault name) made files writes is = absurd is
delivered_end command words before later now sink_before sink bytes WriteFault made files writes is =
    (bytes, made, part_delivered_from (file_name command words) before later now sink_before sink bytes files writes is)
delivered_end command words before later now sink_before sink bytes (TooLong name) made files writes is = absurd is
delivered_end command words before later now sink_before sink bytes (Chain broken) made files writes is = absurd is

-- a run that was put out is an end
goes_out : (command : Command) (words : List (List ℕ)) → runs_looms command ≡ true → file_name command words ≡ None
goes_out Weave words runs = refl
goes_out Check words runs = absurd cc
goes_out Draw words runs = absurd cc
goes_out Paper words runs = absurd cc
goes_out (Cards face) words runs = absurd cc
goes_out Lift words runs = absurd cc
goes_out (Trial n) words runs = refl

pub run_end : (command : Command) (words : List (List ℕ)) (o : Outside) (session : SessionValue) (run_log : Option RunLog) (cause : Cause)
    → runs_looms command ≡ true → IsAbout command words o.shelf_before.files session → KeepsFiles o
    → IsRun command session o.sink_before o.sink run_log cause → IsEndOf command words o run_log cause
run_end command words o session run_log Done runs about keeps is = (
  is.0,
  record { session = session; about = about; sound = is.1.sound; output = is.1.output words o.shelf_before.files },
  subst (λ (name : Option (List ℕ)). Delivered name o is.0) (sym (goes_out command words runs)) (record { files = keeps; faults = is.2; taken = is.3 }),
)
run_end command words o session run_log Usage runs about keeps is = is
run_end command words o session run_log (Session broken) runs about keeps is = absurd is
run_end command words o session run_log (OpeningFloat float) runs about keeps is = ((session, about, is.0), record { files = keeps; sink = is.1; no_log = is.2 })
run_end command words o session run_log OutOfMemory runs about keeps is = (tt, record { files = keeps; sink = is.0; no_log = is.1 })
run_end command words o session run_log (ReadFault name) runs about keeps is = absurd is
run_end command words o session run_log WriteFault runs about keeps is = (
  is.0,
  record { session = session; about = about; sound = is.1.sound; output = is.1.output words o.shelf_before.files },
  subst (λ (name : Option (List ℕ)). DeliveredPart name o is.0) (sym (goes_out command words runs)) (record { files = keeps; rose = is.2; taken = is.3 }),
)
run_end command words o session run_log (TooLong name) runs about keeps is = absurd is
run_end command words o session run_log (Chain broken) runs about keeps is = absurd is

-- a run that was refused
pub refused_run : (command : Command) (session : SessionValue) (sink : SinkState) (cause : Cause) → Refuses session cause → IsRun command session sink sink None cause
refused_run command session sink Done is = absurd is
refused_run command session sink Usage is = is
refused_run command session sink (Session broken) is = is
refused_run command session sink (OpeningFloat float) is = (is, refl, refl)
refused_run command session sink OutOfMemory is = (refl, refl)
refused_run command session sink (ReadFault name) is = is
refused_run command session sink WriteFault is = absurd is
refused_run command session sink (TooLong name) is = is
refused_run command session sink (Chain broken) is = is

-- there is a log where looms were run
output_log : (command : Command) (words : List (List ℕ)) (files : Option (List File)) (session : SessionValue) (run_log : Option RunLog) (bytes : List ℕ)
    → IsOutput command words files session run_log bytes → is_some run_log ≡ runs_looms command
output_log Weave words files session run_log bytes is = ap (λ (log : Option RunLog). is_some log) is.1
output_log Check words files session run_log bytes is = ap (λ (log : Option RunLog). is_some log) is.0
output_log Draw words files session run_log bytes is = ap (λ (log : Option RunLog). is_some log) is.0
output_log Paper words files session run_log bytes is = ap (λ (log : Option RunLog). is_some log) is.0
output_log (Cards face) words files session run_log bytes is = ap (λ (log : Option RunLog). is_some log) is.0
output_log Lift words files session run_log bytes is = ap (λ (log : Option RunLog). is_some log) is.0
output_log (Trial n) words files session run_log bytes is = ap (λ (log : Option RunLog). is_some log) is.1

quiet_log : (o : Outside) (run_log : Option RunLog) → IsQuiet o run_log → is_some run_log ≡ false
quiet_log o run_log quiet = ap (λ (log : Option RunLog). is_some log) quiet.no_log

pub log_kept : (asked : Option Command) (words : List (List ℕ)) (o : Outside) (run_log : Option RunLog) (cause : Cause) → IsCausedBy asked words o run_log cause
    → is_some run_log ≡ has_run asked cause
log_kept None words o run_log cause is = quiet_log o run_log is.1
log_kept (Some command) words o run_log Done is = output_log command words o.shelf_before.files is.1.session run_log is.0 is.1.output
log_kept (Some command) words o run_log Usage is = absurd is
log_kept (Some command) words o run_log (Session broken) is = quiet_log o run_log is.1
log_kept (Some command) words o run_log (OpeningFloat float) is = quiet_log o run_log is.1
log_kept (Some command) words o run_log OutOfMemory is = quiet_log o run_log is.1
log_kept (Some command) words o run_log (ReadFault name) is = quiet_log o run_log is.1
log_kept (Some command) words o run_log WriteFault is = output_log command words o.shelf_before.files is.1.session run_log is.0 is.1.output
log_kept (Some command) words o run_log (TooLong name) is = quiet_log o run_log is.1
log_kept (Some command) words o run_log (Chain broken) is = quiet_log o run_log is.1

-- ---- the count of read faults, and the name of the read that failed last: only a failed read changes them

unless_failed_reads : (before : ℕ) (cause : Cause) → ((told : List ℕ) → cause ≡ ReadFault told → ⊥) → before ≡ reads_at before cause
unless_failed_reads before Done other = refl
unless_failed_reads before Usage other = refl
unless_failed_reads before (Session broken) other = refl
unless_failed_reads before (OpeningFloat float) other = refl
unless_failed_reads before OutOfMemory other = refl
unless_failed_reads before (ReadFault told) other = absurd (other told refl)
unless_failed_reads before WriteFault other = refl
unless_failed_reads before (TooLong told) other = refl
unless_failed_reads before (Chain broken) other = refl

unless_failed_name : (before : List ℕ) (cause : Cause) → ((told : List ℕ) → cause ≡ ReadFault told → ⊥) → before ≡ name_at before cause
unless_failed_name before Done other = refl
unless_failed_name before Usage other = refl
unless_failed_name before (Session broken) other = refl
unless_failed_name before (OpeningFloat float) other = refl
unless_failed_name before OutOfMemory other = refl
unless_failed_name before (ReadFault told) other = absurd (other told refl)
unless_failed_name before WriteFault other = refl
unless_failed_name before (TooLong told) other = refl
unless_failed_name before (Chain broken) other = refl

pub refused_reads : (session : SessionValue) (before : ℕ) (cause : Cause) → Refuses session cause → before ≡ reads_at before cause
refused_reads session before cause is = unless_failed_reads before cause (λ told same. subst (λ (c : Cause). Refuses session c) same is)

pub refused_name : (session : SessionValue) (before : List ℕ) (cause : Cause) → Refuses session cause → before ≡ name_at before cause
refused_name session before cause is = unless_failed_name before cause (λ told same. subst (λ (c : Cause). Refuses session c) same is)

pub delivered_reads : (name : Option (List ℕ)) (o : Outside) (bytes : List ℕ) (before : ℕ) (cause : Cause) → IsDelivery name o bytes cause → before ≡ reads_at before cause
delivered_reads name o bytes before cause is = unless_failed_reads before cause (λ told same. subst (λ (c : Cause). IsDelivery name o bytes c) same is)

pub delivered_name : (name : Option (List ℕ)) (o : Outside) (bytes : List ℕ) (before : List ℕ) (cause : Cause) → IsDelivery name o bytes cause → before ≡ name_at before cause
delivered_name name o bytes before cause is = unless_failed_name before cause (λ told same. subst (λ (c : Cause). IsDelivery name o bytes c) same is)

pub run_reads : (command : Command) (session : SessionValue) (old now : SinkState) (run_log : Option RunLog) (before : ℕ) (cause : Cause)
    → IsRun command session old now run_log cause → before ≡ reads_at before cause
run_reads command session old now run_log before cause is =
    unless_failed_reads before cause (λ told same. subst (λ (c : Cause). IsRun command session old now run_log c) same is)

pub run_name : (command : Command) (session : SessionValue) (old now : SinkState) (run_log : Option RunLog) (before : List ℕ) (cause : Cause)
    → IsRun command session old now run_log cause → before ≡ name_at before cause
run_name command session old now run_log before cause is =
    unless_failed_name before cause (λ told same. subst (λ (c : Cause). IsRun command session old now run_log c) same is)

pub chain_reads : (session : SessionValue) (chain : List ℕ) (before : ℕ) (cause : Cause) → IsChainFault session chain cause → before ≡ reads_at before cause
chain_reads session chain before cause is = unless_failed_reads before cause (λ told same. subst (λ (c : Cause). IsChainFault session chain c) same is)

pub chain_told : (session : SessionValue) (chain : List ℕ) (before : List ℕ) (cause : Cause) → IsChainFault session chain cause → before ≡ name_at before cause
chain_told session chain before cause is = unless_failed_name before cause (λ told same. subst (λ (c : Cause). IsChainFault session chain c) same is)

-- where a session was not read
pub unread_reads : (before : ℕ) (refusal : SessionRefusal) → after_refusal before (risen before) refusal ≡ reads_at before (cause_of refusal)
unread_reads before (Fault broken) = refl
unread_reads before (NotRead told) = refl
unread_reads before (TooManyBytes told) = refl
unread_reads before NoMemory = refl

pub unread_name : (before : List ℕ) (refusal : SessionRefusal) → told_name before refusal ≡ name_at before (cause_of refusal)
unread_name before (Fault broken) = refl
unread_name before (NotRead told) = refl
unread_name before (TooManyBytes told) = refl
unread_name before NoMemory = refl
