use Rattle.std.proofs.Common.{[]}
use Rattle.toml.specs.View.{table_view, view}
use Rattle.toml.specs.Data.{get_member}
use Rattle.session_rules.specs.Tables.{optional}
use Rattle.session_rules.specs.Paths.{keyed, path_of}
use Rattle.session_rules.specs.Values.{value_at}
use Rattle.session_rules.proofs.Keyed.{reads_there}
use Rattle.session_rules.proofs.tables.optional.Goals as goal

pub returns-clause-reads : goal.returns-clause-reads
unfolding optional value_at path_of
returns-clause-reads g c =
    let path = keyed (path_of c.args.path.now) c.args.key.now in
    reads_there (g.F.Form.faults c.args.form.now []) path [] (g.F.Form.gives c.args.form.now []) c.args.default
    (get_member c.args.key.now (table_view c.args.table.now)) (view c.in-Some.value.now) c.read.result c.in-Some.ensures c.read.ensures.reads
