use Rattle.std.proofs.Common.{◌≡◌, ◌<◌, ℕ, length}
use Rattle.std.specs.Prelude.{None}
use Rattle.mill_base.specs.Lines.{line_by}
use Rattle.cloth_floats.specs.Floats.{first_long_of}
use Rattle.point_paper.specs.Papers.{bit_cell}
use Rattle.draft_model.proofs.first_float.find_warp.Given as goal

abbrev pub invariant-loop-column : goal.invariant-loop-column
invariant-loop-column l = record {
  none : (k : ℕ) → k < l.column → first_long_of (line_by (length l.bits.rows) (λ p. bit_cell l.bits k p)) l.design.warp_face l.design.warp_back ≡ None;
  long : length l.long ≡ length l.bits.rows;
}
