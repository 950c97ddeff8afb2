-- The first receipt that is not its entry's.
use Rattle.std.specs.Prelude.{◌≡◌, ◌≢◌, ℕ, ◌<◌, List, [], length, slice_get, slice_index_or, Option, Some}
use Rattle.strokes.specs.Spans.{PreparedAct}
use Rattle.version_journal.specs.declared.entry.Entry.{Entry}
use Rattle.open_desk.specs.Histories.{receipts_of}
use Rattle.open_desk.specs.declared.receipt.Receipt.{Receipt}

-- each of the receipts, before the k-th, is the one that stands in its place among the kept ones
abbrev pub AgreeBelow : ℕ → List Receipt → List Receipt → Type 0
AgreeBelow k receipts kept = (j : ℕ) → j < k → slice_get receipts j ≡ slice_get kept j

-- the k-th receipt is `told`, and in its place among the kept ones stands another or none; those before it agree
pub record DifferFirst (receipts kept : List Receipt) (told : Receipt) (found : Option Receipt) : Type 0 where
  pub k : ℕ
  pub here : slice_get receipts k ≡ Some told
  pub there : slice_get kept k ≡ found
  pub apart : found ≢ Some told
  pub before : AgreeBelow k receipts kept

-- the receipts of a caller among lists of them
abbrev pub list_of : List (List Receipt) → ℕ → List Receipt
list_of lists caller = slice_index_or lists caller []

-- all receipts of the callers below `callers` are those of their entries
abbrev pub AllAgree : ℕ → List PreparedAct → List Entry → List (List Receipt) → Type 0
AllAgree callers acts entries lists = (caller : ℕ) → caller < callers → AgreeBelow (length (list_of lists caller)) (list_of lists caller) (receipts_of acts entries caller)

-- the first caller that has a receipt that is not that of its entry, with the first such receipt
pub record IsFirstDifference (callers : ℕ) (acts : List PreparedAct) (entries : List Entry) (lists : List (List Receipt)) (caller : ℕ) (told : Receipt) (found : Option Receipt) : Type 0 where
  pub one : caller < callers
  pub earlier : AllAgree caller acts entries lists
  pub first : DifferFirst (list_of lists caller) (receipts_of acts entries caller) told found
