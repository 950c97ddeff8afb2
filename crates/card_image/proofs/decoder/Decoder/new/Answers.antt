use Rattle.std.proofs.Common.{◌∙◌, length, sym, ap, arith}
use Rattle.card_image.specs.Faults.{chain_fault}
use Rattle.card_image.specs.inner.Decoders.{design_of}
use Rattle.card_image.proofs.Feeding.{no_bytes}
use Rattle.card_image.proofs.decoder.Decoder.new.Goals as goal

pub invariant_of-result : goal.invariant_of-result
invariant_of-result c = record {
  short = let none = ap length c.in_ok-bytes.ensures.items in omega (arith, none);
  room = omega (arith, c.in_ok-bytes.ensures.capacity, c.length.ensures.length);
  clean = λ e. ap (chain_fault (design_of c.in_ok-plan.plan)) c.in_ok-bytes.ensures.items ∙ no_bytes (design_of c.in_ok-plan.plan);
}

pub returns-clause-fed : goal.returns-clause-fed
returns-clause-fed c = record {
  fault = sym (no_bytes (design_of c.in_ok-plan.plan));
  bytes = λ e. c.in_ok-bytes.ensures.items;
}
