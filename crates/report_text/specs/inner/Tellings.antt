-- The words of a cause in the parts in which they are written out.
use Rattle.std.specs.Prelude.{ℕ, List, [], ◌∷◌}
use Rattle.std.specs.List.{concat}
use Rattle.mill_base.specs.Phrases.{phrase_text}
use Rattle.report_text.specs.declared.telling.Telling.{Telling}

-- the parts one after another, of which the name is told in its way
abbrev pub words_of : (List ℕ → List ℕ) → Telling → List ℕ
words_of told telling = concat (telling.before.now ∷ told telling.name.now ∷ telling.between.now ∷ phrase_text telling.phrase ∷ [])
