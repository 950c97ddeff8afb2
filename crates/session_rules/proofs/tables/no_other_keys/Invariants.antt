use Rattle.std.proofs.Common.{◌≡◌, map}
use Rattle.toml.specs.View.{table_view}
use Rattle.session_rules.specs.Tables.{no_other}
use Rattle.session_rules.specs.Paths.{path_of}
use Rattle.session_rules.proofs.Others.{others}
use Rattle.session_rules.proofs.tables.no_other_keys.Given as goal

abbrev pub invariant-loop-key : goal.invariant-loop-key
invariant-loop-key l =
    others (map (λ known. known.now) l.keys) (path_of l.fn.path) l.key-iterator ≡ no_other (map (λ known. known.now) l.keys) (path_of l.fn.path) (table_view l.table)
