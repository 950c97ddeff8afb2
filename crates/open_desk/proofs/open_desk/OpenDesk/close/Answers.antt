use Rattle.std.proofs.Common.{◌≡◌, sym, subst}
use Rattle.open_desk.specs.Closings.{IsClosed}
use Rattle.open_desk.specs.Passes.{told}
use Rattle.open_desk.specs.declared.closed.Closed.{Closed}
use Rattle.open_desk.proofs.Closing.{if_ok}
use Rattle.open_desk.proofs.open_desk.OpenDesk.close.Goals as goal

pub returns-clause-closed : goal.returns-clause-closed
returns-clause-closed g c = if_ok c.close.result _ IsClosed (λ (x : Closed) e. subst (λ (y : Closed). IsClosed y) (sym e) c.close.ensures.locked.at) c.close.ensures.closed
