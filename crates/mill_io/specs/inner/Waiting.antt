-- Bytes that wait to be put.
use Rattle.std.specs.Prelude.{◌≡◌, ℕ, List, ◌++◌, Option}
use Rattle.mill_io.specs.Takes.{TookAll}

-- a piece was added to what waited, of which a part was put, and the rest waits
abbrev pub Waits : Option (List ℕ) → List ℕ → Option (List ℕ) → List ℕ → List ℕ → Type 0
Waits before waited now waits piece = (gone : List ℕ) × TookAll before now gone × (gone ++ waits ≡ waited ++ piece)
