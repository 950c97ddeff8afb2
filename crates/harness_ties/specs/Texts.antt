-- The text of a tie fault.
use Rattle.std.specs.Prelude.{ℕ, codes, decimal, List, [], ◌∷◌}
use Rattle.std.specs.List.{concat}
use Rattle.harness_ties.specs.declared.fault.TieFault.{TieFault}
use Rattle.harness_ties.specs.declared.fault.TieFault.TheVariants.{SectionRange, TooManyEnds, Untied, OutOfMemory}

abbrev pub tie_text : TieFault → List ℕ
tie_text (SectionRange section) = concat (codes "section " ∷ decimal section ∷ codes " out of range" ∷ [])
tie_text (TooManyEnds section) = concat (codes "section " ∷ decimal section ∷ codes " has too many ends" ∷ [])
tie_text (Untied column) = concat (codes "column " ∷ decimal column ∷ codes " untied" ∷ [])
tie_text OutOfMemory = concat (codes "out of memory" ∷ [])
