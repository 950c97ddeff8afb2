use Rattle.point_paper.specs.declared.paper.Span.{Span}
use Rattle.strokes.proofs.Covers.{added_run, on_ok}
use Rattle.strokes.proofs.stamp.push_run.Goals as goal

pub returns-in-Some : goal.returns-in-Some
returns-in-Some c size all low within among =
    let span : Span = record { column = c.args.column; pick = c.args.pick; length = c.args.length; colour = c.in-Some.colour } in
    on_ok c.push_span.result _ _ c.push_span.ensures
    (λ is. added_run size all c.args.spans.now.items c.push_span.new.spans.items c.args.cell span c.in-Some.is is (record { some = c.requires; pick = low; columns = within }) among)
