-- What a checker knows when it has read some lines.
use Rattle.std.specs.Prelude.{◌≡◌, ℕ, List, [], ◌∷◌, ◌++◌, length}
use Rattle.shift_model.specs.Logs.{Legal}
use Rattle.version_journal.specs.declared.run_log.RunLog.{RunLog}
use Rattle.session_file.specs.declared.session.Session.{Session}
use Rattle.report_text.specs.Reports.{report}
use Rattle.audit_model.specs.Audits.{Begins, joined, lines_of}
use Rattle.audit_model.specs.Pieces.{IsLine}
use Rattle.audit_model.specs.States.{CanFollow, Extends, Part, State, text}

-- each of the lines is one
abbrev pub AreLines : List (List ℕ) → Type 0
AreLines [] = Unit {0}
AreLines (line ∷ lines) = IsLine line × AreLines lines

-- The bytes are whole lines that lead to a state, of whose text some lines are still to come. Each legal log whose report begins with the
-- bytes goes on from there.
pub record Reaches (session : Session) (bytes : List ℕ) (state : State) (coming : List (List ℕ)) : Type 0 where
  pub part : Part session state
  pub told : text session state ≡ bytes ++ joined coming
  pub lines : AreLines coming
  pub only : (log : RunLog) → Legal session log → Begins bytes (report session log) → Extends session state log

-- The next piece begins the line that is to come, or where none is, the first line of a move.
abbrev pub MayCome : Session → State → List (List ℕ) → List ℕ → Type 0
MayCome session state [] piece = CanFollow session state piece
MayCome session state (line ∷ lines) piece = Begins piece line

-- the bytes are cut behind their first k lines
pub record Cut (bytes : List ℕ) (k : ℕ) (read left : List ℕ) : Type 0 where
  pub lines : List (List ℕ)
  pub count : length lines ≡ k
  pub are : lines_of bytes ≡ lines ++ lines_of left
  pub told : joined lines ≡ read
  pub whole : bytes ≡ read ++ left

-- the next line of the bytes that are left is the piece
abbrev pub IsNext : List ℕ → List ℕ → List ℕ → Type 0
IsNext left piece rest = (left ≡ piece ++ rest) × (lines_of left ≡ piece ∷ lines_of rest)
