-- What is known of a file that was to be read.
use Rattle.std.specs.Prelude.{◌≡◌, ℕ, List, Option}
use Rattle.mill_base.specs.declared.limits.TheConstants.{MAX_FILE_BYTES}
use Rattle.mill_io.specs.Files.{File}
use Rattle.mill_io.specs.Reads.{HoldsMore}
use Rattle.session_rules.specs.declared.fault.SessionRefusal.{SessionRefusal}
use Rattle.session_rules.specs.declared.fault.SessionRefusal.TheVariants.{Fault, ReadFault, TooLong, OutOfMemory}
use Rattle.session_file.specs.declared.draft.Opening.{Opening}
use Rattle.session_file.specs.declared.draft.Opening.TheVariants.{Image}
use Rattle.session_file.specs.declared.draft.SessionDraft.{SessionDraft}
use Rattle.session_file.specs.Readings.{HeldIn}
use Rattle.session_file.specs.Sessions.{BreaksDocument, OpensNot}

-- the file of the name could not be read, or it is too long
abbrev pub IsUnread : Option (List File) → List ℕ → SessionRefusal → Type 0
IsUnread files name (Fault broken) = ⊥
IsUnread files name (ReadFault told) = told ≡ name
IsUnread files name (TooLong told) = (told ≡ name) × HoldsMore files name MAX_FILE_BYTES
IsUnread files name OutOfMemory = Unit {0}

-- what is told of the bytes of a session file
abbrev pub TellsDocument : List ℕ → SessionRefusal → Type 0
TellsDocument bytes (Fault broken) = BreaksDocument bytes broken
TellsDocument bytes (ReadFault told) = ⊥
TellsDocument bytes (TooLong told) = ⊥
TellsDocument bytes OutOfMemory = Unit {0}

-- what is told of an opening paper
abbrev pub TellsOpening : Option (List File) → SessionDraft → Opening → SessionRefusal → Type 0
TellsOpening files draft opening (Fault broken) = OpensNot (HeldIn files) draft opening broken
TellsOpening files draft opening (ReadFault told) = opening ≡ Image told
TellsOpening files draft opening (TooLong told) = (opening ≡ Image told) × HoldsMore files told MAX_FILE_BYTES
TellsOpening files draft opening OutOfMemory = Unit {0}
