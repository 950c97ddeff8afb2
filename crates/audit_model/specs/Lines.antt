-- The lines of a report, one after another.
use Rattle.std.specs.Prelude.{ℕ, zero, suc, ◌+◌, Bool, codes, List, [], ◌∷◌, ◌++◌, Option, Some, None}
use Rattle.draft_model.specs.Cloths.{ClothCells}
use Rattle.version_journal.specs.declared.entry.Entry.{Entry}
use Rattle.version_journal.specs.declared.run_log.RunLog.{RunLog}
use Rattle.session_file.specs.declared.session.Session.{Session}
use Rattle.report_text.specs.Reports.{design_text, last_version, numbered, row_line, shift_lines}

-- the texts of 0 to n - 1, one after another
abbrev pub texts_below : ℕ → (ℕ → List ℕ) → List ℕ
texts_below zero text = []
texts_below (suc n) text = texts_below n text ++ text n

-- the two lines that each report of a session begins with
abbrev pub first_line : List ℕ
first_line = codes "studio 1\n"

abbrev pub design_line : Session → List ℕ
design_line session = codes "design " ++ design_text session.design ++ codes "\n"

-- the line that a shift begins with
abbrev pub shift_head : ℕ → List ℕ
shift_head shift = numbered (codes "shift ") shift ++ codes "\n"

-- the last line
abbrev pub end_line : List Entry → List ℕ
end_line entries = numbered (codes "end versions ") (last_version entries) ++ codes "\n"

-- the report down to the last line of the first shifts
abbrev pub report_of_shifts : Session → RunLog → ℕ → List ℕ
report_of_shifts session log shifts = (first_line ++ design_line session) ++ texts_below shifts (shift_lines session log)

-- the lines of rows, of which the first has this pick
abbrev pub lines_of_rows : ℕ → List (List Bool) → List (List ℕ)
lines_of_rows pick [] = []
lines_of_rows pick (row ∷ rows) = row_line pick row ∷ lines_of_rows (pick + 1) rows

-- the lines behind that of a repeat: its rows, where they are shown
abbrev pub shown_lines : Option ClothCells → List (List ℕ)
shown_lines None = []
shown_lines (Some cloth) = lines_of_rows 0 cloth.rows
