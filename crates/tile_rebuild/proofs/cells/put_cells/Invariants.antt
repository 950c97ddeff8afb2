use Rattle.std.proofs.Common.{◌≡◌, ◌+◌, ◌<◌, ◌≤◌, ℕ, [], false, length, get_or}
use Rattle.mill_base.specs.Stretches.{IsLaid}
use Rattle.tile_rebuild.proofs.cells.put_cells.Given as goal

abbrev pub invariant-loop-b : goal.invariant-loop-b
invariant-loop-b l = record {
  wide : l.bits.columns ≡ l.fn.bits.columns;
  tall : length l.bits.rows ≡ length l.fn.bits.rows;
  row : length l.row ≡ l.fn.bits.columns;
  laid : (b : ℕ) → b < l.b → IsLaid (get_or l.fn.bits.rows (l.part.pick + b) []) l.part.column l.part.width (λ i. get_or (get_or l.cells.rows b []) (0 + i) false) (get_or l.bits.rows (l.part.pick + b) []);
  below : (p : ℕ) → p < l.part.pick → get_or l.bits.rows p [] ≡ get_or l.fn.bits.rows p [];
  past : (p : ℕ) → l.part.pick + l.b ≤ p → get_or l.bits.rows p [] ≡ get_or l.fn.bits.rows p [];
}
