-- What stands in the lock of an open desk: acts that were done one after another, and each caller's receipts of them.
use Rattle.std.specs.Prelude.{◌≡◌, ℕ, ◌+◌, ◌<◌, ◌==◌, Bool, List, length, map, take, filter, count_by, slice_get, slice_index_or, Some}
use Rattle.std.specs.List.{range_with_len}
use Rattle.mill_base.specs.Lines.{line_by}
use Rattle.point_paper.specs.Papers.{PaperCells}
use Rattle.strokes.specs.Spans.{PreparedAct}
use Rattle.strokes.specs.declared.act.Act.{Act}
use Rattle.strokes.specs.declared.act.Act.TheVariants.{Commit}
use Rattle.draft_model.specs.declared.design.Design.{Design}
use Rattle.version_journal.specs.declared.entry.Entry.{Entry}
use Rattle.version_journal.specs.declared.entry.Reply.TheVariants.{Painted}
use Rattle.version_journal.specs.Journals.{ActWithMotif, replies}
use Rattle.studio_core.specs.Cores.{entry_by}
use Rattle.open_desk.specs.declared.receipt.Receipt.{Receipt}

-- an act that is prepared, as the act and the cells of its motif
abbrev pub acted : PreparedAct → ActWithMotif
acted act = record { act = act.act; motif = act.motif }

abbrev pub all_acted : List PreparedAct → List ActWithMotif
all_acted acts = map acted acts

-- the entry is the caller's
abbrev pub is_of : ℕ → Entry → Bool
is_of caller entry = entry.painter == caller

-- how many entries are the caller's
abbrev pub count_of : ℕ → List Entry → ℕ
count_of caller entries = count_by (is_of caller) entries

-- An entry that may stand behind earlier ones: it has shift 0, the number of one of so many callers as its painter, and that caller's
-- next number, counted from 1.
pub record IsNext (callers : ℕ) (earlier : List Entry) (entry : Entry) : Type 0 where
  pub shift : entry.shift ≡ 0
  pub caller : entry.painter < callers
  pub number : entry.number ≡ count_of entry.painter earlier + 1

abbrev pub AreNumbered : ℕ → List Entry → Type 0
AreNumbered callers entries = (k : ℕ) (entry : Entry) → slice_get entries k ≡ Some entry → IsNext callers (take k entries) entry

-- A history of one thread: there are as many acts as entries, the entries have the replies that the acts get one after another from the
-- opening on, and each is its caller's next.
pub record IsHistory (design : Design) (callers : ℕ) (opening : PaperCells) (acts : List PreparedAct) (entries : List Entry) : Type 0 where
  pub as_many : length acts ≡ length entries
  pub replied : map (λ entry. entry.reply) entries ≡ replies design opening (all_acted acts)
  pub numbered : AreNumbered callers entries

-- the entry and the act at a place; what stands past the end does not matter
abbrev pub entry_at : List Entry → ℕ → Entry
entry_at entries place = slice_index_or entries place (entry_by 0 0 0 Painted)

abbrev pub act_at : List PreparedAct → ℕ → Act
act_at acts place = slice_index_or (map (λ act. act.act) acts) place Commit

-- the places of a caller's entries, in rising order
unfoldable pub places_of : ℕ → List Entry → List ℕ
places_of caller entries = filter (λ place. is_of caller (entry_at entries place)) (range_with_len 0 (length entries))

-- the place, the act and the reply of an entry
abbrev pub receipt_at : List PreparedAct → List Entry → ℕ → Receipt
receipt_at acts entries place = record { place = place; act = act_at acts place; reply = (entry_at entries place).reply }

-- the receipts of all entries of a caller, in rising order
abbrev pub receipts_of : List PreparedAct → List Entry → ℕ → List Receipt
receipts_of acts entries caller = map (receipt_at acts entries) (places_of caller entries)

-- A history of one thread, and the receipts of all its entries, caller by caller.
pub record OneHistory (design : Design) (callers : ℕ) (opening : PaperCells) (acts : List PreparedAct) (entries : List Entry) (receipts : List (List Receipt)) : Type 0 where
  pub history : IsHistory design callers opening acts entries
  pub told : receipts ≡ line_by callers (receipts_of acts entries)
