use Rattle.std.proofs.Common.{◌∙◌, sym, ap, cond, None, Some, arith}
use Rattle.std.proofs.lemmas.Bool.{eq-eqb, ne_eqb}
use Rattle.card_image.specs.declared.fault.ChainFault.TheVariants.{HoleCount}
use Rattle.card_image.proofs.Counting.{counted_fault}
use Rattle.card_image.proofs.card_fault.holes_fault.Goals as goal

pub count_within-requires : goal.count_within-requires
count_within-requires c = omega (arith, c.requires, c.args.plan.now.few)

pub returns-then-found-from : goal.returns-then-found-from
returns-then-found-from c =
    sym ((counted_fault c.args.plan.now.hooks c.args.plan.now.columns.items c.args.plan.now.mask.items c.args.holes.now c.deref.result.now c.args.pick c.args.written c.in-Some.found
    c.args.plan.now.marked c.deref.ensures.value c.requires c.in-Some.ensures.count c.in-Some.ensures.within).0
    ∙ ap (λ b. cond b None (Some (HoleCount c.args.written c.in-Some.found))) (eq-eqb c.in-Some.found c.args.written (c.if-found-from.true ∙ c.from.ensures)))

pub overflow_cast-result : goal.overflow_cast-result
overflow_cast-result c =
    let few = (counted_fault c.args.plan.now.hooks c.args.plan.now.columns.items c.args.plan.now.mask.items c.args.holes.now c.deref.result.now c.args.pick c.args.written c.in-Some.found
    c.args.plan.now.marked c.deref.ensures.value c.requires c.in-Some.ensures.count c.in-Some.ensures.within).1 in
    omega (arith, few, c.args.plan.now.few)

pub returns : goal.returns
returns c =
    sym ((counted_fault c.args.plan.now.hooks c.args.plan.now.columns.items c.args.plan.now.mask.items c.args.holes.now c.deref.result.now c.args.pick c.args.written c.in-Some.found
    c.args.plan.now.marked c.deref.ensures.value c.requires c.in-Some.ensures.count c.in-Some.ensures.within).0
    ∙ ap (λ b. cond b None (Some (HoleCount c.args.written c.in-Some.found))) (ne_eqb c.in-Some.found c.args.written (λ e. c.if-found-from.false (e ∙ sym c.from.ensures))))
