-- How the path of a value in a document is written. It is this project's own.
use Rattle.std.specs.Prelude.{ℕ, codes, decimal, List, [], ◌∷◌, ◌++◌}
use Rattle.session_rules.specs.declared.path.Path.{Path, Top, Key', Item'}

-- a key of a table that has a path; the path of the top table is empty
abbrev pub keyed : List ℕ → List ℕ → List ℕ
keyed [] key = key
keyed (b ∷ path) key = (b ∷ path) ++ codes "." ++ key

-- an item of a list that has a path, counted from 0
unfoldable pub indexed : List ℕ → ℕ → List ℕ
indexed path k = path ++ codes "[" ++ decimal k ++ codes "]"

unfoldable pub path_of : Path → List ℕ
path_of Top = []
path_of (Key' p table key) = keyed (path_of table) key.now
path_of (Item' p list k) = indexed (path_of list) k
