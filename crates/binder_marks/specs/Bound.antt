-- A bound line: floats that are too long are broken by the marks of two weaves, the binders.
use Rattle.std.specs.Prelude.{ℕ, Bool, false, not, List, length, slice_index_or, if◌then◌else◌}
use Rattle.mill_base.specs.Lines.{line_by}

-- the cell at a place: where no float is too long the raw cell; where one is, an unlifted cell becomes the mark of the
-- binder that raises, and a lifted one is lowered exactly where the binder that sinks has a mark
abbrev pub bound_cell : Bool → Bool → Bool → Bool → Bool
bound_cell raw long raise sink = if long then (if raw then not sink else raise) else raw

-- the cell at place k of a line, from the lines of raw cells, of places in long floats, and of the two binders
abbrev pub bound_at : List Bool → List Bool → List Bool → List Bool → ℕ → Bool
bound_at raw long raise sink k =
    bound_cell (slice_index_or raw k false) (slice_index_or long k false) (slice_index_or raise k false) (slice_index_or sink k false)

-- the whole line
unfoldable pub bound_line : List Bool → List Bool → List Bool → List Bool → List Bool
bound_line raw long raise sink = line_by (length raw) (bound_at raw long raise sink)
