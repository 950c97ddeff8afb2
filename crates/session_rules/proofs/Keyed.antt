-- The value at a key.
use Rattle.std.proofs.Common.{◌≡◌, ℕ, List, Option, Some, Result, subst}
use Rattle.std.specs.Option.{option_map_or}
use Rattle.toml.specs.Data.{Data}
use Rattle.session_rules.specs.declared.fault.SessionFault.{SessionFault}
use Rattle.session_rules.specs.declared.fault.SessionRefusal.{SessionRefusal}
use Rattle.session_rules.specs.Checks.{Check}
use Rattle.session_rules.specs.Faults.{Reads}
use Rattle.session_rules.specs.Tables.{there}

pub reads_there : {A : Type 0} (check : Check) (path : List ℕ) (missing : List SessionFault) (value : Data → A) (absent : A) (o : Option Data) (d : Data) (r : Result A SessionRefusal)
    → Some d ≡ o → Reads (check path d) (value d) r → Reads (there check path missing o) (option_map_or value o absent) r
reads_there check path missing value absent o d r e h = subst (λ (x : Option Data). Reads (there check path missing x) (option_map_or value x absent) r) e h
