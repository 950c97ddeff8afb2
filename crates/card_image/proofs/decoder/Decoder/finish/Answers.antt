use Rattle.std.proofs.Common.{◌∙◌, sym, ap, length}
use Rattle.card_image.specs.Places.{chain_length}
use Rattle.card_image.specs.Fed.{DecoderValue}
use Rattle.card_image.proofs.Feeding.{ended_fault, ended_short}
use Rattle.card_image.proofs.decoder.Decoder.finish.Goals as goal

pub returns-in-Some-clause-fault : goal.returns-in-Some-clause-fault
returns-in-Some-clause-fault c fed was = ended_fault c.args.self c.in-Some.fault fed (sym (ap (λ (v : DecoderValue). v.fault) c.self.view_is) ∙ c.in-Some.is) was

pub returns-then-found-whole-clause-fault : goal.returns-then-found-whole-clause-fault
returns-then-found-whole-clause-fault c fed was =
    ended_short c.args.self fed c.length-whole.result c.len-found.result (sym (ap (λ (v : DecoderValue). v.fault) c.self.view_is) ∙ c.in_default.is) was
    (c.length-whole.ensures.length ∙ ap (λ (v : DecoderValue). chain_length v.design) c.self.view_is)
    (c.len-found.ensures ∙ c.self.inside.bytes.ok.0 ∙ ap (λ (v : DecoderValue). length v.bytes) c.self.view_is) c.if-found-whole.true
