use Rattle.std.proofs.Common.{◌+◌, ◌≤◌, length, ap, sym, refl, ◌∙◌, arith}
use Rattle.std.proofs.lemmas.List.{length_push}
use Rattle.strokes.specs.Paints.{distance, line_length}
use Rattle.strokes.proofs.Covers.{colour_none, colour_push}
use Rattle.strokes.proofs.LinePlaces.{step_first, stretch_next, stretch_last}
use Rattle.strokes.proofs.corners.Corners.line.Goals as goal

pub loop-start-init : goal.loop-start-init
loop-start-init c =
    let line = c.args.self.now in
    let none = c.in_ok-spans.ensures.items in (
      omega arith,
      (λ _. ap length none ∙ sym (step_first (line_length line.column0 line.pick0 line.column1 line.pick1) (distance line.pick0 line.pick1))),
      (λ past. absurd (omega (arith, past))),
      rw none (colour_none c.args.size c.args.colour _ (λ x p. refl)),
    )

pub loop-start-preserved : goal.loop-start-preserved
loop-start-preserved c =
    let line = c.args.self.now in
    let n = line_length line.column0 line.pick0 line.column1 line.pick1 in
    let start = c.loop-start.start in
    let end = c.stretch_end-end.result in
    let within : end ≤ n = c.stretch_end-end.ensures.within in
    let ahead : start ≤ end = c.stretch_end-end.ensures.ahead in
    let level = c.stretch_end-end.ensures.level end ahead (omega arith) in
    let short : distance line.pick0 line.pick1 ≤ n = omega arith in
    let long = ap length c.in_ok-push_span.ensures ∙ length_push c.loop-start.spans.items c.span.result in
    let before = c.loop-start.invariant.1 (omega (arith, c.last-last.ensures, ahead, within)) in (
      omega (arith, c.last-last.ensures, within),
      (λ more. long ∙ ap (λ k. k + 1) before
          ∙ stretch_next line.pick0 line.pick1 n start end short ahead (omega (arith, more, c.last-last.ensures)) level (c.stretch_end-end.ensures.whole (omega (arith, more, c.last-last.ensures)))),
      (λ last. long ∙ ap (λ k. k + 1) (before ∙ stretch_last line.pick0 line.pick1 n start end short ahead (omega (arith, last, c.last-last.ensures)) level)),
      rw c.in_ok-push_span.ensures (colour_push c.args.size c.args.colour _ _ c.loop-start.spans.items c.span.result c.loop-start.invariant.3
          (c.span.ensures.inside c.args.size c.requires.first c.requires.second) c.span.ensures.colour c.span.ensures.cells),
    )
