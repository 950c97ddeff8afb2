use Rattle.std.proofs.Common.{◌∙◌, map, arith}
use Rattle.card_image.specs.Sets.{design_by, other_face, turned_card}
use Rattle.card_image.proofs.Written.{same_design, written_set, written_clean}
use Rattle.card_image.proofs.card_set.CardSet.turned.Goals as goal

pub of_chain-requires-clause-clean : goal.of_chain-requires-clause-clean
of_chain-requires-clause-clean c =
    let casting = c.args.casting.now in
    let set = c.args.self.now in
    written_clean (design_by casting set.design.picks) _ c.in_ok-chain.chain.items (other_face set.face) (map (turned_card casting.hooks casting.columns) set.holes)
    (same_design casting set.design.picks c.hooks.result c.picks.result c.in_ok-columns.columns.items c.hooks.ensures.count c.picks.ensures.count
    (c.in_ok-columns.ensures.items ∙ c.hooks_of_columns.ensures.hooks))
    (omega (arith, c.hooks.type_inv, c.hooks.ensures.count)) (omega (arith, c.picks.type_inv, c.picks.ensures.count)) c.in_ok-chain.ensures

pub returns : goal.returns
returns c =
    let casting = c.args.casting.now in
    let set = c.args.self.now in
    written_set (design_by casting set.design.picks) _ c.in_ok-chain.chain.items (other_face set.face) (map (turned_card casting.hooks casting.columns) set.holes) c.of_chain.result
    (same_design casting set.design.picks c.hooks.result c.picks.result c.in_ok-columns.columns.items c.hooks.ensures.count c.picks.ensures.count
    (c.in_ok-columns.ensures.items ∙ c.hooks_of_columns.ensures.hooks))
    c.in_ok-chain.ensures c.of_chain.ensures.design c.of_chain.ensures.chain
