-- A tie as stretches of ends whose columns rise or fall by one.
use Rattle.std.specs.Prelude.{ℕ, ◌+◌, ◌-◌, ◌<◌, ◌≤◌, ◌≡◌, ◌≢◌, true, false, List, flat_map, if◌then◌else◌}
use Rattle.mill_base.specs.Lines.{line_by}
use Rattle.harness_ties.specs.declared.stretch.Stretch.{Stretch}

-- the column of a stretch's i-th end
abbrev pub column_of : Stretch → ℕ → ℕ
column_of s i = if s.falling then s.column - i else s.column + i

-- the columns of a stretch's ends
abbrev pub stretch_columns : Stretch → List ℕ
stretch_columns s = line_by s.count (column_of s)

-- the columns of the ends of all stretches, one after another
abbrev pub written_out : List Stretch → List ℕ
written_out stretches = flat_map stretch_columns stretches

-- a stretch has an end, and all of its columns are there
pub record IsStretch (columns : ℕ) (s : Stretch) : Type 0 where
  pub some : 0 < s.count
  pub first : s.column < columns
  pub rises : s.falling ≡ false → s.column + s.count ≤ columns
  pub falls : s.falling ≡ true → s.count ≤ s.column + 1

-- the stretch does not go on at an end with this column
pub record IsLongest (s : Stretch) (column : ℕ) : Type 0 where
  pub rises : s.falling ≡ false → column ≢ s.column + s.count
  pub falls : s.falling ≡ true → column + s.count ≢ s.column
