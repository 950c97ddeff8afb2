-- What opening a journal answers.
use Rattle.std.specs.Prelude.{Result, IfErr, ◌≡◌, ◌≢◌, ◌⊎◌, ◌<◌, ◌≤◌, ℕ, List, [], ◌∷◌, ◌++◌, length, take, All, slice_index}
use Rattle.mill_base.specs.Causes.{Rose}
use Rattle.journal_disk.specs.declared.call.Call.TheVariants.{Sync}
use Rattle.journal_disk.specs.Disks.{Log, with_call}
use Rattle.block_journal.specs.declared.journal.TheConstants.{BLOCK_MARKS}
use Rattle.block_journal.specs.declared.open.KeepRefusal.{KeepRefusal}
use Rattle.block_journal.specs.declared.open.KeepRefusal.TheVariants.{Fault, NotJournal, Broken, OutOfMemory}
use Rattle.block_journal.specs.declared.mark.Mark.{Mark}
use Rattle.block_journal.specs.Journals.{Rule, Fits, IsGood, AllGood, body_of, front, header, joined}

-- `at` is the first of the bytes 0 to 36 that is missing or, below 36, differs from the header
pub record NotJournalAt (digest bytes : List ℕ) (at : ℕ) : Type 0 where
  pub same : take at bytes ≡ take at (header digest)
  pub early : at ≤ 36
  pub here : (length bytes ≡ at) ⊎ ((at < 36) × (at < length bytes) × (slice_index bytes at ≢ slice_index (header digest) at))

-- the bytes begin with the header, and have one behind it
pub record HasHeader (digest bytes : List ℕ) : Type 0 where
  pub within : 36 < length bytes
  pub same : take 36 bytes ≡ header digest

-- the bytes begin with a block without its first byte, and have one behind it
pub record IsBlock (bytes : List ℕ) (block : List Mark) : Type 0 where
  pub some : 1 ≤ length block
  pub few : length block ≤ BLOCK_MARKS
  pub fits : All Fits block
  pub gate : ℕ
  pub rest : List ℕ
  pub parts : bytes ≡ body_of block ++ gate ∷ rest

abbrev pub NoBlock : List ℕ → Type 0
NoBlock bytes = (block : List Mark) → IsBlock bytes block → ⊥

-- block k, counted from 0, is the first that is not good or has no byte behind it
pub record BrokenAt (rule : Rule) (digest bytes : List ℕ) (k : ℕ) : Type 0 where
  pub blocks : List (List Mark)
  pub rest : List ℕ
  pub parts : bytes ≡ front digest blocks ++ 1 ∷ rest
  pub good : AllGood rule [] blocks
  pub count : k ≡ length blocks
  pub bad : (block : List Mark) → IsBlock rest block → IsGood rule (joined blocks) block → ⊥

-- the good blocks up to a place within the bytes are these marks
pub record ReadTo (rule : Rule) (digest bytes : List ℕ) (marks : List Mark) (place count : ℕ) : Type 0 where
  pub blocks : List (List Mark)
  pub rest : List ℕ
  pub parts : bytes ≡ front digest blocks ++ rest
  pub good : AllGood rule [] blocks
  pub marks_are : marks ≡ joined blocks
  pub place_is : place ≡ length (front digest blocks)
  pub count_is : count ≡ length blocks
  pub within : place < length bytes

-- a fact for each refusal
abbrev pub MatchRefusal : KeepRefusal → Type 0 → (ℕ → Type 0) → (ℕ → Type 0) → Type 0
MatchRefusal Fault P Q R = P
MatchRefusal (NotJournal at) P Q R = Q at
MatchRefusal (Broken k) P Q R = R k
MatchRefusal OutOfMemory P Q R = Unit {0}

-- a count that does not fall, and a fault only where it rose
pub record OpenFaultRose {T : Type 0} (before now : ℕ) (result : Result T KeepRefusal) : Type 0 where
  pub later : before ≤ now
  pub fault : IfErr result (λ refusal. MatchRefusal refusal (Rose before now) (λ at. Unit {0}) (λ k. Unit {0}))

-- nothing was written: the log is as it was, or has a sync more
abbrev pub OnlySynced : Log → Log → Type 0
OnlySynced old new = (new ≡ old) ⊎ (new ≡ with_call old Sync)

-- why bytes are not opened: a file without bytes is none of these
abbrev pub RefusedFor : Rule → List ℕ → List ℕ → KeepRefusal → Type 0
RefusedFor rule digest bytes refusal = MatchRefusal refusal (Unit {0}) (λ at. (0 < length bytes) × NotJournalAt digest bytes at) (λ k. BrokenAt rule digest bytes k)
