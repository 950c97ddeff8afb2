-- How much of a cloth's floats is listed.
use Rattle.std.specs.Prelude.{◌<◌, ◌≤◌, ℕ, length, take}
use Rattle.point_paper.specs.Papers.{BitCells}
use Rattle.draft_model.specs.declared.design.Design.{Design}
use Rattle.draft_model.specs.declared.float_run.FloatKind.{FloatKind}
use Rattle.draft_model.specs.declared.float_run.FloatKind.TheVariants.{Weft, Warp}
use Rattle.draft_model.specs.declared.float_run.FloatRun.{FloatRun}
use Rattle.float_list.specs.declared.long_float.LongFloat.{LongFloat}
use Rattle.float_list.specs.declared.list.FloatList.{FloatList}
use Rattle.float_list.specs.declared.list.TheConstants.{MAX_LISTED}
use Rattle.float_list.specs.Floats.{floats_along, floats_of}

-- the first floats, as many as are listed at the most, and how many there are of each kind
abbrev pub list_of : Design → BitCells → FloatList
list_of design bits = record {
  listed = take MAX_LISTED (floats_of design bits);
  weft = length (floats_along Weft design bits);
  warp = length (floats_along Warp design bits);
}

-- a float of the list as a refused commit tells it
abbrev pub told : LongFloat → FloatRun
told float = record { kind = float.kind; line = float.line; start = float.run.start; length = float.run.length; endless = float.run.endless }

-- how many lines of a kind a repeat of a design's cloth has, and how many cells each has
abbrev pub lines_in : FloatKind → Design → ℕ
lines_in Weft design = design.size.picks
lines_in Warp design = length design.tie.ends

abbrev pub cells_in : FloatKind → Design → ℕ
cells_in Weft design = length design.tie.ends
cells_in Warp design = design.size.picks

-- the float lies on a line of the design's cloth
pub record IsFloatOf (design : Design) (float : LongFloat) : Type 0 where
  pub line : float.line < lines_in float.kind design
  pub start : float.run.start < cells_in float.kind design
  pub some : 0 < float.run.length
  pub within : float.run.length ≤ cells_in float.kind design
