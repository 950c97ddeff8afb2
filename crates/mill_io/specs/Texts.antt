-- The texts of what fails outside. They are this project's own.
use Rattle.std.specs.Prelude.{ℕ, codes, List, [], ◌∷◌}
use Rattle.std.specs.List.{concat}
use Rattle.mill_base.specs.Texts.{memory_text}
use Rattle.mill_io.specs.declared.faults.Failed.{Failed as FailedWrite}
use Rattle.mill_io.specs.declared.shelf.ShelfRefusal.{ShelfRefusal}
use Rattle.mill_io.specs.declared.shelf.ShelfRefusal.TheVariants.{Failed, TooLong, OutOfMemory}

abbrev pub failed_text : FailedWrite → List ℕ
failed_text fault = concat (codes "cannot write" ∷ [])

abbrev pub refusal_text : ShelfRefusal → List ℕ
refusal_text Failed = concat (codes "cannot read" ∷ [])
refusal_text TooLong = concat (codes "too long" ∷ [])
refusal_text OutOfMemory = memory_text (record {})
