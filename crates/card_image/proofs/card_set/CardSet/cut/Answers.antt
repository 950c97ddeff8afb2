use Rattle.std.proofs.Common.{◌∙◌, length, arith}
use Rattle.mill_base.specs.declared.face.Face.TheVariants.{Up}
use Rattle.card_image.specs.Sets.{cards_up, design_by}
use Rattle.card_image.proofs.Written.{same_design, written_set, written_clean}
use Rattle.card_image.proofs.card_set.CardSet.cut.Goals as goal

pub of_chain-requires-clause-clean : goal.of_chain-requires-clause-clean
of_chain-requires-clause-clean c =
    let n = length c.args.bits.now.rows in
    written_clean (design_by c.args.casting.now n) _ c.in_ok-chain.chain.items Up (cards_up c.args.casting.now c.args.bits.now)
    (same_design c.args.casting.now n c.hooks.result c.picks_of.result c.in_ok-columns.columns.items c.hooks.ensures.count c.picks_of.ensures (c.in_ok-columns.ensures.items ∙ c.hooks_of_columns.ensures.hooks))
    (omega (arith, c.hooks.type_inv, c.hooks.ensures.count)) (omega (arith, c.picks_of.type_inv, c.picks_of.ensures)) c.in_ok-chain.ensures

pub returns : goal.returns
returns c =
    let n = length c.args.bits.now.rows in
    written_set (design_by c.args.casting.now n) _ c.in_ok-chain.chain.items Up (cards_up c.args.casting.now c.args.bits.now) c.of_chain.result
    (same_design c.args.casting.now n c.hooks.result c.picks_of.result c.in_ok-columns.columns.items c.hooks.ensures.count c.picks_of.ensures
    (c.in_ok-columns.ensures.items ∙ c.hooks_of_columns.ensures.hooks))
    c.in_ok-chain.ensures c.of_chain.ensures.design c.of_chain.ensures.chain
