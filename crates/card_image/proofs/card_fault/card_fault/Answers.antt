use Rattle.std.proofs.Common.{◌∙◌}
use Rattle.card_image.proofs.Cards.{card_fault_is}
use Rattle.card_image.proofs.card_fault.card_fault.Goals as goal

pub returns : goal.returns
returns c =
    c.or.ensures ∙ card_fault_is c.args.plan.now.hooks c.args.plan.now.columns.items c.args.bytes.now c.args.pick c.args.at _ _ c.requires.at c.number_fault.ensures c.whole_fault.ensures
