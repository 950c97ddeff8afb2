use Rattle.shed_publish.specs.Versions.{version_of}
use Rattle.std.proofs.Common.{ap}
use Rattle.shed_publish.proofs.Boards.{put}
use Rattle.shed_publish.proofs.board.BoardAbsorbPut.absorb_first.Goals as goal

pub returns-clause-absorbed : goal.returns-clause-absorbed
returns-clause-absorbed c =
    rw (c.push_reserved.ensures.items, c.truncate.ensures.items, c.reserve.ensures.items)
    (put version_of _ _ _ _ (ap (λ v. record { version = c.args.operation.now.entry.version; cards = v }) c.in_ok-cards.ensures))
