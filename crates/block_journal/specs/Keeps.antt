-- What the calls of a journal answer and leave.
use Rattle.std.specs.Prelude.{◌≡◌, ◌⊎◌, ◌≤◌, ℕ, List, ◌++◌, Option, Some, None, IfSome, Result, Err, IfErr}
use Rattle.mill_base.specs.Causes.{Rose}
use Rattle.block_journal.specs.declared.journal.AddRefusal.{AddRefusal}
use Rattle.block_journal.specs.declared.journal.AddRefusal.TheVariants.{Fault, Closed}
use Rattle.block_journal.specs.declared.mark.Mark.{Mark}
use Rattle.journal_disk.specs.Disks.{Log, AtRest, MayLeave, seen, state}
use Rattle.journal_disk.specs.Gates.{ShutAt}
use Rattle.block_journal.specs.Journals.{Rule, JournalView, Stands, StandsTo}

-- the disk, where it tells, stands for the journal's marks, and nothing is pending
abbrev pub IsKept : Rule → Option Log → JournalView → Type 0
IsKept rule told keep = IfSome told (λ log. AtRest log × StandsTo rule keep.digest (seen log) keep.marks keep.place)

-- nothing is pending on the disk, where it tells, and a byte other than 1 stands at the place for the next block
abbrev pub IsReady : Option Log → ℕ → Type 0
IsReady told place = IfSome told (λ log. AtRest log × ShutAt (seen log) place)

-- the bytes stand for the marks, or for these with a block more
abbrev pub WithOrWithout : Rule → List ℕ → List Mark → List Mark → List ℕ → Type 0
WithOrWithout rule digest marks block bytes = Stands rule digest bytes marks ⊎ Stands rule digest bytes (marks ++ block)

-- a crash now leaves bytes that stand for these marks
abbrev pub KeepsAll : Rule → Option Log → List ℕ → List Mark → Type 0
KeepsAll rule told digest marks = IfSome told (λ log. (bytes : List ℕ) → MayLeave (state log) bytes → Stands rule digest bytes marks)

-- the answer of an add: after one that failed, its number; else it can fail alone
abbrev pub Answers : {T : Type 0} → Option ℕ → Result T AddRefusal → Type 0
Answers (Some number) result = result ≡ Err (Closed number)
Answers None result = IfErr result (λ refusal. refusal ≡ Fault)

-- a count that does not fall, and a fault only where it rose
pub record FaultRose {T : Type 0} (before now : ℕ) (result : Result T AddRefusal) : Type 0 where
  pub later : before ≤ now
  pub fault : IfErr result (λ refusal. refusal ≡ Fault → Rose before now)
