-- All floats of a cloth that are over their limit, line by line. What a line of the cloth is, what its floats are and when one is over
-- its limit is said where the rules of the cloth stand.
use Rattle.std.specs.Prelude.{ℕ, Bool, List, ◌++◌, length, map, filter, flat_map}
use Rattle.std.specs.List.{range_with_len}
use Rattle.cloth_floats.specs.Floats.{runs_of, is_over}
use Rattle.point_paper.specs.Papers.{BitCells}
use Rattle.draft_model.specs.declared.design.Design.{Design}
use Rattle.draft_model.specs.declared.float_run.FloatKind.{FloatKind}
use Rattle.draft_model.specs.declared.float_run.FloatKind.TheVariants.{Weft, Warp}
use Rattle.draft_model.specs.Floats.{weft_line, warp_line}
use Rattle.float_list.specs.declared.long_float.Limits.{Limits}
use Rattle.float_list.specs.declared.long_float.LongFloat.{LongFloat}

-- the limits along a pick and along an end: lifted cells float on the back of a pick and on the face of an end
abbrev pub limits_of : FloatKind → Design → Limits
limits_of Weft design = record { kind = Weft; lifted = design.weft_back; unlifted = design.weft_face }
limits_of Warp design = record { kind = Warp; lifted = design.warp_face; unlifted = design.warp_back }

-- how many lines of a kind one repeat has, and the cells of one of them
abbrev pub lines_of : FloatKind → Design → BitCells → ℕ
lines_of Weft design bits = length bits.rows
lines_of Warp design bits = length design.tie.ends

abbrev pub line_of : FloatKind → Design → BitCells → ℕ → List Bool
line_of Weft design bits line = weft_line design.tie.ends bits line
line_of Warp design bits line = warp_line design.tie.ends bits line

-- the floats of such cells that are over their limit, by rising start, as floats of a line of the cloth
unfoldable pub over_limit : Limits → ℕ → List Bool → List LongFloat
over_limit limits line cells =
    map (λ run. record { kind = limits.kind; line = line; run = run }) (filter (is_over limits.lifted limits.unlifted) (runs_of cells))

-- the floats over their limit along all picks, or along all ends
unfoldable pub floats_along : FloatKind → Design → BitCells → List LongFloat
floats_along kind design bits =
    flat_map (λ line. over_limit (limits_of kind design) line (line_of kind design bits line)) (range_with_len 0 (lines_of kind design bits))

-- all floats over their limit: pick by pick, and after all picks end by end
abbrev pub floats_of : Design → BitCells → List LongFloat
floats_of design bits = floats_along Weft design bits ++ floats_along Warp design bits
