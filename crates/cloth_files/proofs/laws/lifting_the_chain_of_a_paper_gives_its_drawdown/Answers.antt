use Rattle.std.proofs.Common.{◌∙◌, ap, sym}
use Rattle.mill_base.specs.declared.face.Face.{Face}
use Rattle.cloth_files.specs.Cards.{cloth_of_cards, paper_cards}
use Rattle.cloth_files.proofs.Lifts.{lifted_is}
use Rattle.cloth_files.proofs.laws.lifting_the_chain_of_a_paper_gives_its_drawdown.Goals as goal

pub returns-clause-cards : goal.returns-clause-cards
returns-clause-cards c design face paper = lifted_is design face paper c.what_is_lifted_is_the_cloth.ensures.row

pub returns-clause-chain : goal.returns-clause-chain
returns-clause-chain c design face other paper bytes cards fits is one more =
    sym (ap (λ (f : Face). cloth_of_cards design f cards) (c.a_chain_has_one_card_set.ensures.face _ bytes face other (paper_cards design face paper) cards one more))
    ∙ ap (cloth_of_cards design face) (sym (c.a_chain_has_one_card_set.ensures.cards _ bytes face other (paper_cards design face paper) cards one more))
    ∙ lifted_is design face paper c.what_is_lifted_is_the_cloth.ensures.row fits is
