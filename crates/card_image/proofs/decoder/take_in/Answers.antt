use Rattle.std.proofs.Common.{◌∙◌, sym, ap, ℕ, ◌-◌, min, length}
use Rattle.card_image.specs.inner.Decoders.{design_of}
use Rattle.card_image.proofs.Feeding.{fault_of_piece, excess_of_piece}
use Rattle.card_image.proofs.decoder.take_in.Goals as goal

pub returns-in-Some-clause-fault : goal.returns-in-Some-clause-fault
returns-in-Some-clause-fault c =
    fault_of_piece (design_of c.args.plan.now) c.args.bytes.now.items c.args.piece.now c.deref.result.now c.min-taken.result c.in-Some.fault
    (c.deref.ensures.value ∙ c.in-Ok.ensures.items) (sym c.fault_past.ensures ∙ c.in-Some.is)

pub returns-then-taken-piece-clause-fault : goal.returns-then-taken-piece-clause-fault
returns-then-taken-piece-clause-fault c =
    excess_of_piece (design_of c.args.plan.now) c.args.bytes.now.items c.args.piece.now c.deref.result.now c.min-taken.result c.length-whole.result
    (c.deref.ensures.value ∙ c.in-Ok.ensures.items) (sym c.fault_past.ensures ∙ c.in_default-fault_past.is) (c.min-taken.ensures ∙ ap (λ (n : ℕ). min (length c.args.piece.now) (c.length-whole.result - n)) (c.len-from.ensures ∙ c.args.bytes.now.ok.0)) c.if-taken-piece.true c.length-whole.ensures.length c.requires.short
