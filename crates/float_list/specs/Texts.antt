-- The lines that tell the floats of a cloth. Each ends with one line feed, and numbers are decimal. All of it is this project's own.
use Rattle.std.specs.Prelude.{ℕ, ◌+◌, ◌-◌, ◌%◌, ◌==◌, nat_lt, Bool, true, false, codes, List, ◌++◌, length, flat_map, slice_index, if◌then◌else◌}
use Rattle.std.specs.Fmt.{decimal}
use Rattle.cloth_floats.specs.Cells.{limit_of}
use Rattle.cloth_floats.specs.declared.Run.{Run}
use Rattle.draft_model.specs.declared.design.Design.{Design}
use Rattle.draft_model.specs.declared.float_run.FloatKind.{FloatKind}
use Rattle.draft_model.specs.declared.float_run.FloatKind.TheVariants.{Weft, Warp}
use Rattle.float_list.specs.declared.list.FloatList.{FloatList}
use Rattle.float_list.specs.declared.long_float.LongFloat.{LongFloat}
use Rattle.float_list.specs.Floats.{limits_of}

-- a word and a number behind it, and a word with two numbers
abbrev pub numbered : List ℕ → ℕ → List ℕ
numbered word number = word ++ decimal number

abbrev pub between : List ℕ → ℕ → ℕ → List ℕ
between word first last = numbered word first ++ numbered (codes " to ") last

-- `weft face`, `weft back`, `warp face` or `warp back`: lifted cells float on the back along a pick and on the face along an end
abbrev pub kind_text : FloatKind → Bool → List ℕ
kind_text Weft true = codes "float weft back"
kind_text Weft false = codes "float weft face"
kind_text Warp true = codes "float warp face"
kind_text Warp false = codes "float warp back"

-- where a float has its last cell, on a line of so many cells
abbrev pub last_of : ℕ → Run → ℕ
last_of cells run = (run.start + run.length - 1) % cells

-- ` round` where the float runs on past the last cell of its line, and ` endless` where it never ends
abbrev pub edge_text : ℕ → Run → List ℕ
edge_text cells run = if run.endless then codes " endless" else (if nat_lt cells (run.start + run.length) then codes " round" else codes "")

-- the row of an image that shows a pick; rows are counted from the top, from 0, and the top row is the highest pick
abbrev pub row_of : ℕ → ℕ → ℕ
row_of picks pick = picks - 1 - pick

-- ` length N limit M`
abbrev pub length_text : Design → LongFloat → List ℕ
length_text design float = numbered (codes " length ") float.run.length
    ++ numbered (codes " limit ") (limit_of (limits_of float.kind design).lifted (limits_of float.kind design).unlifted float.run.lifted)

-- ` pick P ends A to B length N limit M columns C to D row R`: the columns are those of the first and of the last end
abbrev pub weft_text : Design → LongFloat → List ℕ
weft_text design float = numbered (codes " pick ") float.line
    ++ between (codes " ends ") float.run.start (last_of (length design.tie.ends) float.run) ++ edge_text (length design.tie.ends) float.run
    ++ length_text design float
    ++ between (codes " columns ") (slice_index design.tie.ends float.run.start) (slice_index design.tie.ends (last_of (length design.tie.ends) float.run))
    ++ numbered (codes " row ") (row_of design.size.picks float.line)

-- ` end E column C picks A to B length N limit M rows R to S`: the rows are those of the last and of the first pick
abbrev pub warp_text : Design → LongFloat → List ℕ
warp_text design float = numbered (codes " end ") float.line ++ numbered (codes " column ") (slice_index design.tie.ends float.line)
    ++ between (codes " picks ") float.run.start (last_of design.size.picks float.run) ++ edge_text design.size.picks float.run
    ++ length_text design float
    ++ between (codes " rows ") (row_of design.size.picks (last_of design.size.picks float.run)) (row_of design.size.picks float.run.start)

abbrev pub place_text : FloatKind → Design → LongFloat → List ℕ
place_text Weft design float = weft_text design float
place_text Warp design float = warp_text design float

abbrev pub float_line : Design → LongFloat → List ℕ
float_line design float = kind_text float.kind float.run.lifted ++ place_text float.kind design float ++ codes "\n"

-- `more N` where there are more floats than are listed
abbrev pub more_line : ℕ → List ℕ
more_line more = if more == 0 then codes "" else numbered (codes "more ") more ++ codes "\n"

-- `floats N weft, M warp`
abbrev pub counts_line : ℕ → ℕ → List ℕ
counts_line weft warp = numbered (codes "floats ") weft ++ numbered (codes " weft, ") warp ++ codes " warp\n"

-- the lines of the listed floats, how many more there are, and how many there are of each kind
abbrev pub list_text : Design → FloatList → List ℕ
list_text design list = flat_map (float_line design) list.listed ++ more_line (list.weft + list.warp - length list.listed) ++ counts_line list.weft list.warp
