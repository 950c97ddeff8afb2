-- What is known of the files once a session was read, or was not.
use Rattle.std.specs.Prelude.{◌≡◌, ◌⊎◌, ◌≤◌, ℕ, List, length, Option, Result, Ok, Err}
use Rattle.mill_base.specs.Causes.{risen}
use Rattle.mill_base.specs.declared.limits.TheConstants.{MAX_FILE_BYTES}
use Rattle.mill_io.specs.Files.{File}
use Rattle.mill_io.specs.Reads.{Holds, HoldsMore}
use Rattle.session_rules.specs.declared.fault.SessionRefusal.{SessionRefusal}
use Rattle.session_rules.specs.declared.fault.SessionRefusal.TheVariants.{Fault, ReadFault, TooLong, OutOfMemory}
use Rattle.session_file.specs.Sessions.{Breaks, Wants}

-- the shelf, where it tells, has this content under the name, and it is not too long
abbrev pub HeldIn : Option (List File) → List ℕ → List ℕ → Type 0
HeldIn files name content = Holds files name content × (length content ≤ MAX_FILE_BYTES)

-- a value after an answer: the second one where a file could not be read, and else the first
abbrev pub after_refusal : {A : Type 0} → A → A → SessionRefusal → A
after_refusal same unread (Fault broken) = same
after_refusal same unread (ReadFault name) = unread
after_refusal same unread (TooLong name) = same
after_refusal same unread OutOfMemory = same

-- the count of read faults after an answer: one more where a file could not be read
abbrev pub reads_after : {T : Type 0} → ℕ → Result T SessionRefusal → ℕ
reads_after before (Ok x) = before
reads_after before (Err refusal) = after_refusal before (risen before) refusal

-- the last failed name after an answer: the name that is told where a file could not be read
abbrev pub told_name : List ℕ → SessionRefusal → List ℕ
told_name before (Fault broken) = before
told_name before (ReadFault name) = name
told_name before (TooLong name) = before
told_name before OutOfMemory = before

abbrev pub name_after : {T : Type 0} → List ℕ → Result T SessionRefusal → List ℕ
name_after before (Ok x) = before
name_after before (Err refusal) = told_name before refusal

-- Why the bytes of a session file gave no session: the first rule that they or their image break; or the file of the image, which could
-- not be read or is too long. Want of memory says nothing.
abbrev pub IsRefusalOf : Option (List File) → List ℕ → SessionRefusal → Type 0
IsRefusalOf files bytes (Fault broken) = Breaks (HeldIn files) bytes broken
IsRefusalOf files bytes (ReadFault told) = Wants bytes told
IsRefusalOf files bytes (TooLong told) = Wants bytes told × HoldsMore files told MAX_FILE_BYTES
IsRefusalOf files bytes OutOfMemory = Unit {0}

-- Why the session file of a name gave no session: it could not be read or is too long; or by its bytes.
abbrev pub IsRefusal : Option (List File) → List ℕ → SessionRefusal → Type 0
IsRefusal files name (Fault broken) = (bytes : List ℕ) × HeldIn files name bytes × Breaks (HeldIn files) bytes broken
IsRefusal files name (ReadFault told) = (told ≡ name) ⊎ ((bytes : List ℕ) × HeldIn files name bytes × Wants bytes told)
IsRefusal files name (TooLong told) =
    ((told ≡ name) × HoldsMore files name MAX_FILE_BYTES) ⊎ ((bytes : List ℕ) × HeldIn files name bytes × Wants bytes told × HoldsMore files told MAX_FILE_BYTES)
IsRefusal files name OutOfMemory = Unit {0}
