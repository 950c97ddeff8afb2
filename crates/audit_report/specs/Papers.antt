-- What an act does to the paper, told by its reply.
use Rattle.std.specs.Prelude.{ℕ, List, [], ◌∷◌, ◌++◌}
use Rattle.point_paper.specs.Papers.{PaperCells}
use Rattle.strokes.specs.Paints.{after}
use Rattle.version_journal.specs.Journals.{ActWithMotif}
use Rattle.version_journal.specs.declared.entry.Reply.{Reply}
use Rattle.version_journal.specs.declared.entry.Reply.TheVariants.{Painted, Accepted, Refused}

-- a paint changes the paper
abbrev pub paper_by : Reply → ActWithMotif → PaperCells → PaperCells
paper_by Painted act paper = after act.motif paper act.act
paper_by (Accepted version) act paper = paper
paper_by (Refused float) act paper = paper

-- the number of the version that it made, and 0 where it made none
abbrev pub made_by : Reply → ℕ
made_by Painted = 0
made_by (Accepted version) = version
made_by (Refused float) = 0

-- an accepted commit makes the paper the next version
abbrev pub versions_by : Reply → List PaperCells → PaperCells → List PaperCells
versions_by Painted versions paper = versions
versions_by (Accepted version) versions paper = versions ++ paper ∷ []
versions_by (Refused float) versions paper = versions
