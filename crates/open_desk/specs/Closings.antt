-- What closing a desk answers.
use Rattle.std.specs.Prelude.{◌≡◌, ℕ, List, Option}
use Rattle.point_paper.specs.Papers.{PaperCells}
use Rattle.strokes.specs.Spans.{PreparedAct}
use Rattle.version_journal.specs.Journals.{history}
use Rattle.studio_core.specs.Cores.{CoreValue}
use Rattle.studio_core.specs.Histories.{IsAt}
use Rattle.open_desk.specs.Differences.{IsFirstDifference}
use Rattle.open_desk.specs.Histories.{IsHistory, all_acted}
use Rattle.open_desk.specs.declared.receipt.Receipt.{Receipt}
use Rattle.open_desk.specs.declared.closed.Closed.{Closed}
use Rattle.open_desk.specs.declared.closed.CloseRefusal.{CloseRefusal}
use Rattle.open_desk.specs.declared.closed.CloseRefusal.TheVariants.{Differs}

-- the core's entries are a history of one thread by some acts, and a receipt is the first that is not that of its entry
pub record IsDiffering (callers : ℕ) (lists : List (List Receipt)) (core : CoreValue) (caller : ℕ) (told : Receipt) (kept : Option Receipt) : Type 0 where
  pub opening : PaperCells
  pub acts : List PreparedAct
  pub history : IsHistory core.design callers opening acts core.entries
  pub first : IsFirstDifference callers acts core.entries lists caller told kept

abbrev pub IsCloseRefusal : ℕ → List (List Receipt) → CloseRefusal → Type 0
IsCloseRefusal callers lists (Differs core caller told kept) = IsDiffering callers lists core caller told kept

-- the core is where the history of the acts has come to
abbrev pub IsClosed : Closed → Type 0
IsClosed closed = IsAt (history closed.core.design closed.opening (all_acted closed.acts)) closed.core

-- the core that a refusal gives back
abbrev pub core_of : CloseRefusal → CoreValue
core_of (Differs core caller told kept) = core
