-- What is read of the words behind the first of an act, where they have no fault.
use Rattle.std.specs.Prelude.{ℕ, List}
use Rattle.strokes.specs.Acts.{number_in, motif_in}
use Rattle.strokes.specs.declared.motifs.NamedMotif.{NamedMotif}
use Rattle.strokes.specs.declared.spelling.ColouredCorners.{ColouredCorners}
use Rattle.strokes.specs.declared.spelling.Place.{Place}

-- the colour and the two corners of a rectangle or a line
abbrev pub corners_in : List (List ℕ) → ColouredCorners
corners_in words = record { colour = number_in words 0; column0 = number_in words 1; pick0 = number_in words 2; column1 = number_in words 3; pick1 = number_in words 4 }

-- the motif and the cell of a stamp or a half drop
abbrev pub place_in : List NamedMotif → List (List ℕ) → Place
place_in motifs words = record { motif = motif_in motifs words 0; column = number_in words 1; pick = number_in words 2 }
