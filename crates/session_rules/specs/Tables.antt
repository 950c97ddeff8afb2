-- What a table of a document must have. A rule takes the table's path and its members, and yields its faults in their order.
use Rattle.std.specs.Prelude.{ℕ, List, [], ◌∷◌, ◌++◌, Option, Some, None, if◌then◌else◌, bytes_eq}
use Rattle.std.specs.List.{list_any}
use Rattle.toml.specs.Data.{Data, Members, no_members, member, as_table, get_member}
use Rattle.session_rules.specs.declared.fault.SessionFault.{SessionFault}
use Rattle.session_rules.specs.declared.fault.SessionFaultKind.TheVariants.{Missing, UnknownKey}
use Rattle.session_rules.specs.Checks.{Check, typed}
use Rattle.session_rules.specs.Faults.{fault}
use Rattle.session_rules.specs.Paths.{keyed}

abbrev pub Rule : Type 0
Rule = List ℕ → Members → List SessionFault

-- some rules, one after another
abbrev pub all_of : List Rule → Rule
all_of [] path ms = []
all_of (rule ∷ rules) path ms = rule path ms ++ all_of rules path ms

-- a table that keeps a rule
unfoldable pub table : Rule → Check
table rule path d = typed (rule path) path (as_table d)

abbrev pub there : Check → List ℕ → List SessionFault → Option Data → List SessionFault
there check path missing None = missing
there check path missing (Some d) = check path d

-- the key has to be there, with such a value
unfoldable pub required : List ℕ → Check → Rule
required key check path ms = there check (keyed path key) (fault (keyed path key) Missing) (get_member key ms)

-- the key may be absent; where it is there, it has such a value
unfoldable pub optional : List ℕ → Check → Rule
optional key check path ms = there check (keyed path key) [] (get_member key ms)

-- the table has no other keys; its members stand in the order of their keys' bytes, so the least unknown key is told
abbrev pub unknown_key : List (List ℕ) → List ℕ → List ℕ → List SessionFault
unknown_key keys path key = if list_any (λ known. bytes_eq known key) keys then [] else fault (keyed path key) UnknownKey

unfoldable pub no_other : List (List ℕ) → Rule
no_other keys path no_members = []
no_other keys path (member key d ms) = unknown_key keys path key ++ no_other keys path ms
