use Rattle.std.proofs.Common.{◌≡◌, length, take}
use Rattle.std.specs.Prelude.{reverse}
use Rattle.std.specs.List.{concat}
use Rattle.mill_base.specs.Lines.{line_by}
use Rattle.point_paper.specs.Papers.{pick_of}
use Rattle.cloth_files.proofs.images.pixels_of_paper.Given as goal

abbrev pub invariant-loop-row : goal.invariant-loop-row
invariant-loop-row g l = record {
  line : length l.line.items ≡ l.paper.columns;
  pixels : l.pixels.items ≡ concat (take l.row (reverse (line_by l.paper.picks (pick_of l.paper))));
}
