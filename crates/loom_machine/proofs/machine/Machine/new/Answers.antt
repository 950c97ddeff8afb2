use Rattle.std.proofs.Common.{◌∙◌, length, false, sym, ap}
use Rattle.std.proofs.lemmas.List.{length-replicate}
use Rattle.casting_out.specs.Castings.{CastingValue}
use Rattle.loom_machine.proofs.Lifts.{made}
use Rattle.loom_machine.proofs.machine.Machine.new.Goals as goal

pub invariant_of-result : goal.invariant_of-result
invariant_of-result c = (
  made c.args.tie.now c.in_ok-copy.field-0 c.args.casting.now c.in_ok-copy-2.field-0 c.in_ok-copy.ensures c.in_ok-copy-2.ensures c.requires c.ends.ensures.tie,
  ap length c.in_ok-hooks.ensures ∙ length-replicate _ false ∙ c.hooks.ensures.count ∙ sym (ap (λ (k : CastingValue). k.hooks) c.in_ok-copy-2.ensures),
  ap length c.in_ok-columns.ensures ∙ length-replicate _ false ∙ c.columns.ensures.count ∙ sym (ap (λ (k : CastingValue). length k.columns) c.in_ok-copy-2.ensures),
)
