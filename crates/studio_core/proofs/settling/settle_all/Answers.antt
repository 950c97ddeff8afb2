use Rattle.std.proofs.Common.{sym, subst}
use Rattle.point_paper.specs.Papers.{BitCells}
use Rattle.draft_model.specs.Designs.{IsBitsOf}
use Rattle.studio_core.proofs.Central.{bound_of_design}
use Rattle.studio_core.proofs.settling.settle_all.Goals as goal

pub settle_check-requires-clause-bits : goal.settle_check-requires-clause-bits
settle_check-requires-clause-bits g c =
    subst (λ (bits : BitCells). IsBitsOf c.args.design.now bits) (sym c.settle_bind.ensures.bound) (bound_of_design c.args.design.now c.args.paper.now c.requires.paper)
