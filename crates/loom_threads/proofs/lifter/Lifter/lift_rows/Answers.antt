use Rattle.std.proofs.Common.{◌≡◌, ◌∙◌, ℕ, Bool, List, [], length, arith}
use Rattle.mill_base.specs.Lines.{line_by}
use Rattle.mill_base.proofs.lemmas.Lines.{line_is}
use Rattle.loom_threads.specs.Lifts.{row_from}
use Rattle.loom_threads.proofs.Lifting.{cloth_is}
use Rattle.loom_threads.proofs.lifter.Lifter.lift_rows.Goals as goal

pub returns-clause-cloth : goal.returns-clause-cloth
returns-clause-cloth c =
    let self = c.args.self.now in
    let cards = c.args.cards.now in
    let row : ℕ → List Bool = row_from self.machine self.face cards.holes in
    cloth_is c.loop-pick.cloth (length self.machine.tie.ends) (line_by cards.design.picks row) (c.loop-pick.invariant.ends ∙ c.requires.ends)
    (line_is [] c.loop-pick.cloth.rows cards.design.picks row (c.loop-pick.invariant.picks ∙ c.requires.picks)
    (λ k h. c.loop-pick.invariant.rows k (omega (arith, c.loop-pick-test.false, c.picks-pick-end.ensures.count))))
