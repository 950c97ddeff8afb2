use Rattle.std.proofs.Common.{drop}
use Rattle.shed_publish.proofs.Keeping.{opens, shows_again}
use Rattle.shed_publish.proofs.desk_end.desk_end.Goals as goal

pub new-requires-clause-rule : goal.new-requires-clause-rule
new-requires-clause-rule g c = opens c.in_ok-shown.shown (rw c.in_ok-shown.ensures (c.requires.version, tt))

pub publish_as-writer-requires : goal.publish_as-writer-requires
publish_as-writer-requires g c next is =
    let w = c.in_ok-writer.writer in
    shows_again _ _ w.desk.shown.value next (drop w.behind w.log.items) c.in_ok-writer.ensures.1 is
    (rw (c.in_ok-writer.ensures.0, c.in_ok-shown.ensures) (c.requires.version, tt))
