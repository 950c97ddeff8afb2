use Rattle.std.proofs.Common.{◌≡◌}
use Rattle.point_paper.specs.Papers.{colours_by, image_cell}
use Rattle.point_paper.proofs.paper.Paper.from_rows.Given as goal

abbrev pub invariant-loop-pick : goal.invariant-loop-pick
invariant-loop-pick l = l.colours.items ≡ colours_by l.size.columns l.pick (image_cell l.size.columns l.size.picks l.pixels)
