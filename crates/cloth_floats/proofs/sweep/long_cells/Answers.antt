use Rattle.std.proofs.Common.{sym, ◌∙◌, arith}
use Rattle.cloth_floats.proofs.Indexed.{on_line}
use Rattle.cloth_floats.proofs.Walks.{one_settled, all_settled, nearer}
use Rattle.cloth_floats.proofs.sweep.long_cells.Goals as goal

pub mark-requires-clause-start : goal.mark-requires-clause-start
mark-requires-clause-start c =
    let on = on_line c.args.line.now c.loop-next.invariant.at c.in-Some.run' c.requires.line (sym c.loop-next.invariant.here ∙ c.in-Some.is) in
    omega (arith, on.start)

pub mark-requires-clause-within : goal.mark-requires-clause-within
mark-requires-clause-within c =
    let on = on_line c.args.line.now c.loop-next.invariant.at c.in-Some.run' c.requires.line (sym c.loop-next.invariant.here ∙ c.in-Some.is) in
    omega (arith, on.within)

pub loop-next-smaller : goal.loop-next-smaller
loop-next-smaller c =
    nearer c.args.line.now c.loop-next.next c.next_float-next.result c.in-Some.run' c.loop-next.invariant.at c.requires.line c.loop-next.invariant.here c.in-Some.is
    c.next_float-next.ensures.later

pub loop-next-preserved : goal.loop-next-preserved
loop-next-preserved c =
    one_settled c.args.line.now c.loop-next.out c.mark.new.out c.args.lifted c.args.unlifted c.loop-next.next c.next_float-next.result c.in-Some.run' c.is_over.result
    c.loop-next.invariant c.in-Some.is c.is_over.ensures c.mark.ensures.len c.mark.ensures.inside c.mark.ensures.outside c.next_float-next.ensures.next

pub returns : goal.returns
returns c = all_settled c.args.line.now c.loop-next.out c.args.lifted c.args.unlifted c.loop-next.next c.loop-next.invariant c.in_default.is
