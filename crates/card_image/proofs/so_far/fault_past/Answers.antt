use Rattle.std.proofs.Common.{◌∙◌, sym}
use Rattle.card_image.specs.inner.Decoders.{design_of}
use Rattle.card_image.proofs.Cards.{head_fault_first, known_before, chain_fault_is}
use Rattle.card_image.proofs.so_far.fault_past.Goals as goal

pub returns-in-Some : goal.returns-in-Some
returns-in-Some c =
    head_fault_first (design_of c.args.plan.now) c.args.bytes.now c.in-Some.fault (sym c.head_fault.ensures ∙ c.in-Some.is)

pub cards_fault-requires-clause-before : goal.cards_fault-requires-clause-before
cards_fault-requires-clause-before c =
    known_before (design_of c.args.plan.now) c.args.bytes.now c.args.from c.cards_in-first.result c.requires.before
    c.cards_in-first.ensures.some c.cards_in-first.ensures.there c.requires.from

pub returns : goal.returns
returns c =
    chain_fault_is (design_of c.args.plan.now) c.args.bytes.now c.cards_fault.result c.requires.whole
    (sym c.head_fault.ensures ∙ c.in_default.is) c.cards_fault.ensures
