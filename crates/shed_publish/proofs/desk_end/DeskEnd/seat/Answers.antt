use Rattle.shed_publish.proofs.Keeping.{admits}
use Rattle.shed_publish.proofs.desk_end.DeskEnd.seat.Goals as goal

pub reader-reader-requires : goal.reader-reader-requires
reader-reader-requires c = admits
