use Rattle.std.proofs.Common.{◌∙◌, ap}
use Rattle.harness_ties.specs.Ties.{tied}
use Rattle.loom_machine.specs.Machines.{holes_in}
use Rattle.loom_machine.proofs.Lifts.{lifted}
use Rattle.loom_machine.proofs.machine.carry.Goals as goal

pub returns-clause-row : goal.returns-clause-row
returns-clause-row c =
    let casting = c.args.casting.now in
    c.lay.ensures.line ∙ ap (tied c.args.tie.now.ends) c.read_columns.ensures.row ∙ lifted c.args.tie.now.ends casting (holes_in casting.hooks c.args.card.now) c.requires.tied

pub returns-clause-packed : goal.returns-clause-packed
returns-clause-packed c holes long are =
    c.lay.ensures.line ∙ ap (tied c.args.tie.now.ends) (c.read_columns.ensures.packed holes long are) ∙ lifted c.args.tie.now.ends c.args.casting.now holes c.requires.tied
