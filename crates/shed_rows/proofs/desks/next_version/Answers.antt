use Rattle.std.proofs.Common.{◌∙◌, arith}
use Rattle.card_image.specs.Sets.{design_by}
use Rattle.shed_publish.specs.Versions.{version_of}
use Rattle.shed_publish.proofs.lemmas.Published.{next_alike}
use Rattle.shed_rows.proofs.desks.next_version.Goals as goal

pub returns : goal.returns
returns c =
    let last = c.version.ensures.last in
    let more = c.in-Some.ensures in
    next_alike (design_by c.args.casting.now 1) c.args.desk.now.list (version_of c.in_ok-next.next) c.version.ensures.published c.requires.first
    (c.in_ok-next.ensures.version ∙ omega (arith, last, more)) c.in_ok-next.ensures.design
