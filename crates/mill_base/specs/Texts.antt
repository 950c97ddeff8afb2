-- What is told where memory was refused.
use Rattle.std.specs.Prelude.{ℕ, codes, List, [], ◌∷◌}
use Rattle.std.specs.List.{concat}
use Rattle.mill_base.specs.declared.memory.OutOfMemory.{OutOfMemory}

abbrev pub memory_text : OutOfMemory → List ℕ
memory_text fault = concat (codes "out of memory" ∷ [])
