-- Floats of a cloth, and where they are too long. The terms are Watson's and Grosicki's; that a float is followed round the edges of
-- the repeat is this project's own rule.
use Rattle.std.specs.Prelude.{ℕ, ℤ, pos, ◌+◌, ◌+ℤ◌, ◌-ℤ◌, ◌==◌, Bool, ◌&&◌, ◌||◌, List, ◌++◌, length, slice_index, slice_get, filter_map, Option, Some, None}
use Rattle.std.specs.List.{range_with_len}
use Rattle.mill_base.specs.Below.{any_below, all_below}
use Rattle.mill_base.specs.Lines.{line_by}
use Rattle.cloth_floats.specs.declared.Run.{Run}
use Rattle.cloth_floats.specs.Cells.{limit_of}
use Rattle.mill_base.specs.Lines.{same}
use Rattle.cloth_floats.specs.Floats.{first_long_of}
use Rattle.point_paper.specs.Papers.{BitCells, bit_cell}
use Rattle.draft_model.specs.declared.design.Design.{Design}
use Rattle.draft_model.specs.declared.float_run.FloatRun.{FloatRun}
use Rattle.draft_model.specs.declared.float_run.FloatKind.{FloatKind}
use Rattle.draft_model.specs.declared.float_run.FloatKind.TheVariants.{Weft, Warp}
use Rattle.draft_model.specs.Cloths.{cloth}

-- the cells of a line that never ends, from place `from` to place `from + limit`, all equal the cell at z
abbrev pub is_even : (ℤ → Bool) → ℕ → ℤ → ℤ → Bool
is_even cell limit z from = all_below (λ j. same (cell z) (cell (from +ℤ pos j))) (limit + 1)

-- some i from 0 to the limit is such that the cells from z - i to z - i + limit are equal: one cell more than the limit, z among them
unfoldable pub is_over_at : (ℤ → Bool) → ℕ → ℤ → Bool
is_over_at cell limit z = any_below (λ i. is_even cell limit z (z -ℤ pos i)) (limit + 1)

-- The cell of the cloth at end e and pick p is long: a float over its limit runs through it, along the pick or along the end. Along a
-- pick lifted cells float on the back and unlifted ones on the face; along an end it is the other way round. A line whose cells are all
-- equal is long under every limit, since the cloth never ends.
unfoldable pub long : Design → BitCells → ℤ → ℤ → Bool
long design bits e p =
    is_over_at (λ x. cloth design.tie.ends bits x p) (limit_of design.weft_back design.weft_face (cloth design.tie.ends bits e p)) e
    || is_over_at (λ y. cloth design.tie.ends bits e y) (limit_of design.warp_face design.warp_back (cloth design.tie.ends bits e p)) p

-- some cell of one repeat of the cloth is long
unfoldable pub keeps : Design → BitCells → Bool
keeps design bits = any_below (λ p. any_below (λ e. long design bits (pos e) (pos p)) (length design.tie.ends)) (length bits.rows)

-- a pick of the cloth, end by end, and an end of the cloth, pick by pick
abbrev pub weft_line : List ℕ → BitCells → ℕ → List Bool
weft_line tie bits pick = line_by (length tie) (λ e. bit_cell bits (slice_index tie e) pick)

abbrev pub warp_line : List ℕ → BitCells → ℕ → List Bool
warp_line tie bits end = line_by (length bits.rows) (λ p. bit_cell bits (slice_index tie end) p)

-- the float of a line as a float of the cloth
abbrev pub float_of : FloatKind → ℕ → Option Run → Option FloatRun
float_of kind line None = None
float_of kind line (Some run) = Some (record { kind = kind; line = line; start = run.start; length = run.length; endless = run.endless })

-- the first float of a pick, or of an end, that is over its limit
unfoldable pub weft_float : Design → BitCells → ℕ → Option FloatRun
weft_float design bits pick = float_of Weft pick (first_long_of (weft_line design.tie.ends bits pick) design.weft_back design.weft_face)

unfoldable pub warp_float : Design → BitCells → ℕ → Option FloatRun
warp_float design bits end = float_of Warp end (first_long_of (warp_line design.tie.ends bits end) design.warp_face design.warp_back)

-- the first float of the cloth that is over its limit: pick by pick, and after all picks end by end
unfoldable pub first_float : Design → BitCells → Option FloatRun
first_float design bits =
    slice_get (filter_map (weft_float design bits) (range_with_len 0 (length bits.rows)) ++ filter_map (warp_float design bits) (range_with_len 0 (length design.tie.ends))) 0
