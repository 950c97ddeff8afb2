use Rattle.shed_publish.proofs.Keeping.{enters}
use Rattle.shed_publish.proofs.reading.read_newest.Goals as goal

pub enter_as-requires : goal.enter_as-requires
enter_as-requires c x = enters _ _ x
