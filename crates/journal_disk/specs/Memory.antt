-- What contracts see of a disk in memory, and what its calls do.
use Rattle.std.specs.Prelude.{◌≡◌, ◌⊎◌, ◌==◌, ◌&&◌, nat_lt, ℕ, min, List, length, Option, Some, None, Result, MatchResult, IsOk, IsErr, if◌then◌else◌}
use Rattle.journal_disk.specs.declared.call.Call.TheVariants.{Write, Sync}
use Rattle.journal_disk.specs.declared.memory_disk.Trouble.{Trouble}
use Rattle.journal_disk.specs.Disks.{Log, with_call}

-- its log, its count of faults, how many calls came, and which is to fail
pub record Held : Type 0 where
  pub log : Log
  pub faults : ℕ
  pub count : ℕ
  pub trouble : Option Trouble

-- how many of its bytes the call of this number still puts, where it is to fail
abbrev pub failing_of : Option Trouble → ℕ → Option ℕ
failing_of None call = None
failing_of (Some t) call = if t.call == call then Some t.bytes else (if t.stops && nat_lt t.call call then Some 0 else None)

-- a call that takes no memory fails exactly where it is to
abbrev pub FailsWhereTold : {T E : Type 0} → Option ℕ → Result T E → Type 0
FailsWhereTold None result = IsOk result
FailsWhereTold (Some put) result = IsErr result

-- what a write does. One that is not to fail puts all bytes, or finds no memory and comes to nothing. One that is to fail refuses, and
-- puts its number of bytes, or comes to nothing where these find no memory
abbrev pub WritesAsTold : {T E : Type 0} → Option ℕ → Log → Log → ℕ → List ℕ → Result T E → Type 0
WritesAsTold None old new at bytes result = MatchResult result
    (λ _. new ≡ with_call old (Write (record { at = at; bytes = bytes; put = length bytes })))
    (λ _. new ≡ old)
WritesAsTold (Some most) old new at bytes result = IsErr result
    × ((new ≡ with_call old (Write (record { at = at; bytes = bytes; put = min most (length bytes) }))) ⊎ (new ≡ old))

-- what a sync does. One that is not to fail brings all to the disk, or finds no memory to be recorded in; one that is to fail does nothing
abbrev pub SyncsAsTold : {T E : Type 0} → Option ℕ → Log → Log → Result T E → Type 0
SyncsAsTold None old new result = MatchResult result (λ _. new ≡ with_call old Sync) (λ _. new ≡ old)
SyncsAsTold (Some put) old new result = IsErr result × (new ≡ old)
