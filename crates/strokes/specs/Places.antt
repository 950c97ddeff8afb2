-- Where on a paper an act lies, and what it names.
use Rattle.std.specs.Prelude.{ℕ, ◌<◌, ⊤, List, length, slice_get, Option, Some, None}
use Rattle.mill_base.specs.declared.size.Size.{Size}
use Rattle.strokes.specs.Cells.{MotifCells, no_motif}
use Rattle.strokes.specs.declared.act.Act.{Act}
use Rattle.strokes.specs.declared.act.Act.TheVariants.{Dot, Rect, Line, Stamp, HalfDrop, Commit}
use Rattle.strokes.specs.declared.motifs.NamedMotif.{NamedMotif}

-- the cell is on the paper
pub record IsCell (size : Size) (c p : ℕ) : Type 0 where
  pub column : c < size.columns
  pub pick : p < size.picks

-- the cells that the act names are on the paper
abbrev pub IsOnPaper : Size → Act → Type 0
IsOnPaper size (Dot colour column pick) = IsCell size column pick
IsOnPaper size (Rect colour column0 pick0 column1 pick1) = IsCell size column0 pick0 × IsCell size column1 pick1
IsOnPaper size (Line colour column0 pick0 column1 pick1) = IsCell size column0 pick0 × IsCell size column1 pick1
IsOnPaper size (Stamp motif column pick) = IsCell size column pick
IsOnPaper size (HalfDrop motif column pick) = IsCell size column pick
IsOnPaper size Commit = ⊤

-- the colour that the act names is one of so many
abbrev pub HasColour : ℕ → Act → Type 0
HasColour colours (Dot colour column pick) = colour < colours
HasColour colours (Rect colour column0 pick0 column1 pick1) = colour < colours
HasColour colours (Line colour column0 pick0 column1 pick1) = colour < colours
HasColour colours (Stamp motif column pick) = ⊤
HasColour colours (HalfDrop motif column pick) = ⊤
HasColour colours Commit = ⊤

-- the motif that the act names is there
abbrev pub HasMotif : List NamedMotif → Act → Type 0
HasMotif motifs (Dot colour column pick) = ⊤
HasMotif motifs (Rect colour column0 pick0 column1 pick1) = ⊤
HasMotif motifs (Line colour column0 pick0 column1 pick1) = ⊤
HasMotif motifs (Stamp motif column pick) = motif < length motifs
HasMotif motifs (HalfDrop motif column pick) = motif < length motifs
HasMotif motifs Commit = ⊤

-- the cells of the motif of a number; of a number that no motif has there is none
abbrev pub cells_of_motif : Option NamedMotif → MotifCells
cells_of_motif (Some motif) = motif.motif
cells_of_motif None = no_motif

-- the cells of the motif that the act names; an act that names none goes with the motif without a cell
abbrev pub motif_of_act : List NamedMotif → Act → MotifCells
motif_of_act motifs (Dot colour column pick) = no_motif
motif_of_act motifs (Rect colour column0 pick0 column1 pick1) = no_motif
motif_of_act motifs (Line colour column0 pick0 column1 pick1) = no_motif
motif_of_act motifs (Stamp motif column pick) = cells_of_motif (slice_get motifs motif)
motif_of_act motifs (HalfDrop motif column pick) = cells_of_motif (slice_get motifs motif)
motif_of_act motifs Commit = no_motif

-- what the act names is there: its colour among so many, its cells on the paper, its motif among the motifs
pub record IsThere (colours : ℕ) (size : Size) (motifs : List NamedMotif) (act : Act) : Type 0 where
  pub colour : HasColour colours act
  pub cells : IsOnPaper size act
  pub motif : HasMotif motifs act
