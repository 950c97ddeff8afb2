-- The texts of the faults of acts and of motifs.
use Rattle.std.specs.Prelude.{ℕ, codes, decimal, List, [], ◌∷◌}
use Rattle.std.specs.List.{concat}
use Rattle.strokes.specs.declared.fault.ActFault.{ActFault}
use Rattle.strokes.specs.declared.fault.ActFault.TheVariants.{Word, Number, NoColour, NoMotif, OutOfPaper}
use Rattle.strokes.specs.declared.fault.MotifFault.{MotifFault}
use Rattle.strokes.specs.declared.fault.MotifFault.TheVariants.{Token, Colour, Ragged, TooLarge, OutOfMemory}

abbrev pub act_text : ActFault → List ℕ
act_text (Word k) = concat (codes "act word " ∷ decimal k ∷ codes "" ∷ [])
act_text (Number k) = concat (codes "act number " ∷ decimal k ∷ codes "" ∷ [])
act_text NoColour = concat (codes "act colour" ∷ [])
act_text NoMotif = concat (codes "act motif" ∷ [])
act_text OutOfPaper = concat (codes "act out of paper" ∷ [])

abbrev pub motif_text : MotifFault → List ℕ
motif_text (Token row word) = concat (codes "motif row " ∷ decimal row ∷ codes " word " ∷ decimal word ∷ codes "" ∷ [])
motif_text (Colour row word) = concat (codes "motif row " ∷ decimal row ∷ codes " word " ∷ decimal word ∷ codes " colour" ∷ [])
motif_text (Ragged row) = concat (codes "motif row " ∷ decimal row ∷ codes " ragged" ∷ [])
motif_text TooLarge = concat (codes "motif too large" ∷ [])
motif_text OutOfMemory = concat (codes "out of memory" ∷ [])
