use Rattle.draft_model.specs.Designs.{IsPaperOf}
use Rattle.core_rows.proofs.rebuilding.work_of.Given as goal

abbrev pub invariant-loop-cells : goal.invariant-loop-cells
invariant-loop-cells g l = IsPaperOf l.design l.paper
