-- The text of a disk's fault. It is this project's own.
use Rattle.std.specs.Prelude.{ℕ, codes, List, [], ◌∷◌}
use Rattle.std.specs.List.{concat}
use Rattle.journal_disk.specs.declared.disk.Failed.{Failed}

abbrev pub failed_text : Failed → List ℕ
failed_text fault = concat (codes "cannot keep" ∷ [])
