use Rattle.std.proofs.Common.{◌≡◌, ℕ, ◌+◌, ◌*◌, ◌<◌, get_or}
use Rattle.point_paper.specs.Papers.{line_of}
use Rattle.tile_rebuild.specs.Lines.{item_of}
use Rattle.tile_rebuild.proofs.colour_lines.same_lines.Given as goal

abbrev pub invariant-loop-k : goal.invariant-loop-k
invariant-loop-k g l = record {
  same : (k x : ℕ) → k < l.k → x < l.len → item_of l.len l.kept k x ≡ get_or (line_of l.kind l.paper (l.from + k)) x 0;
  steps : l.steps ≡ l.fn.steps + l.k * l.len;
}
