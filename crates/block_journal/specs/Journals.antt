-- What the bytes of a journal stand for.
use Rattle.std.specs.Prelude.{◌≡◌, ◌≢◌, ◌<◌, ◌≤◌, ℕ, ◌+◌, ◌*◌, ◌^◌, min, Bool, true, List, [], ◌∷◌, ◌++◌, length, All, Option}
use Rattle.std.specs.Int.{w32, to_be_bytes}
use Rattle.block_journal.specs.declared.mark.Mark.{Mark}
use Rattle.block_journal.specs.declared.journal.TheConstants.{BLOCK_MARKS}

-- whether a block may follow the marks before it
abbrev pub Rule : Type 0
Rule = List Mark → List Mark → Bool

-- four bytes, the highest first
unfoldable pub number : ℕ → List ℕ
number n = to_be_bytes w32 n

abbrev pub mark_bytes : Mark → List ℕ
mark_bytes m = number m.shift ++ number m.painter ++ number m.number

abbrev pub marks_bytes : List Mark → List ℕ
marks_bytes [] = []
marks_bytes (m ∷ marks) = mark_bytes m ++ marks_bytes marks

-- a block without its first byte: its count, and shift, painter and number of each mark
unfoldable pub body_of : List Mark → List ℕ
body_of block = number (length block) ++ marks_bytes block

-- 'JST1', and the digest of the session
abbrev pub header : List ℕ → List ℕ
header digest = 74 ∷ 83 ∷ 84 ∷ 49 ∷ digest

abbrev pub blocks_bytes : List (List Mark) → List ℕ
blocks_bytes [] = []
blocks_bytes (block ∷ blocks) = 1 ∷ body_of block ++ blocks_bytes blocks

abbrev pub joined : List (List Mark) → List Mark
joined [] = []
joined (block ∷ blocks) = block ++ joined blocks

-- each of its numbers has 32 bits
pub record Fits (m : Mark) : Type 0 where
  pub shift : m.shift < 2 ^ 32
  pub painter : m.painter < 2 ^ 32
  pub number : m.number < 2 ^ 32

pub record IsGood (rule : Rule) (before block : List Mark) : Type 0 where
  pub some : 1 ≤ length block
  pub few : length block ≤ BLOCK_MARKS
  pub fits : All Fits block
  pub allowed : rule before block ≡ true

-- each block is good after those before it
abbrev pub AllGood : Rule → List Mark → List (List Mark) → Type 0
AllGood rule before [] = Unit {0}
AllGood rule before (block ∷ blocks) = IsGood rule before block × AllGood rule (before ++ block) blocks

-- the header and the blocks
abbrev pub front : List ℕ → List (List Mark) → List ℕ
front digest blocks = header digest ++ blocks_bytes blocks

-- the bytes are the header, good blocks that are these marks, and behind them, at `place`, a byte other than 1
pub record StandsTo (rule : Rule) (digest bytes : List ℕ) (marks : List Mark) (place : ℕ) : Type 0 where
  pub blocks : List (List Mark)
  pub gate : ℕ
  pub rest : List ℕ
  pub parts : bytes ≡ front digest blocks ++ gate ∷ rest
  pub shut : gate ≢ 1
  pub good : AllGood rule [] blocks
  pub marks_are : marks ≡ joined blocks
  pub place_is : place ≡ length (front digest blocks)

abbrev pub Stands : Rule → List ℕ → List ℕ → List Mark → Type 0
Stands rule digest bytes marks = (place : ℕ) × StandsTo rule digest bytes marks place

-- what contracts see of an open journal: whose it is, its marks, the place behind its blocks, how many more marks there is room for,
-- how many adds came, and which of them failed
pub record JournalView : Type 0 where
  pub digest : List ℕ
  pub marks : List Mark
  pub place : ℕ
  pub spare : ℕ
  pub adds : ℕ
  pub failed : Option ℕ

-- what a journal's parts keep: room for as many marks as said, and for a block of them, and numbers that stay small
pub record HasRoom (marks spare place adds room buffer : ℕ) : Type 0 where
  pub all : marks + spare ≤ room
  pub block : 5 + 12 * min spare BLOCK_MARKS ≤ buffer
  pub few : marks + spare < 2 ^ 32
  pub near : place ≤ 36 + 17 * marks
  pub added : adds ≤ marks
