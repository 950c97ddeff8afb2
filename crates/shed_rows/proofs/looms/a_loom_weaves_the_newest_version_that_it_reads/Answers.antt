use Rattle.std.proofs.Common.{List, ap}
use Rattle.shed_publish.specs.Ends.{DeskValue}
use Rattle.shed_publish.specs.Versions.{version_of}
use Rattle.shed_rows.proofs.looms.a_loom_weaves_the_newest_version_that_it_reads.Goals as goal

pub weave_beside-woven-requires-clause-first : goal.weave_beside-woven-requires-clause-first
weave_beside-woven-requires-clause-first g c =
    let first = version_of (record { version = 0; cards = c.in_ok-worked.worked }) in
    (first, ap (λ (d : DeskValue). d.list) c.in_ok-desk.ensures, c.in_ok-worked.ensures)
