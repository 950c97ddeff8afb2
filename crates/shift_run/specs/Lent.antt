-- What becomes of a desk whose end is lent.
use Rattle.std.specs.Borrow.{Fml, Lends, MutBor}
use Rattle.shed_publish.specs.Ends.{DeskValue}
use Rattle.shed_publish.specs.contracts.desk_end.DeskEnd.{the_row as end_row}
use Rattle.shift_run.specs.declared.desk.Desk.{Desk}
use Rattle.shift_run.specs.contracts.desk.Desk.{the_row as desk_row}

-- its end is what is left behind the reference, and its core stays
abbrev pub LendsEnd : MutBor Desk → MutBor DeskValue → Fml
LendsEnd desk end = Lends desk_row end_row desk end (λ e. record desk.now { end = e })
