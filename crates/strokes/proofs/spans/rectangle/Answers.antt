use Rattle.std.proofs.Common.{◌≡◌, ◌≤◌, ◌+◌, ◌&&◌, ◌||◌, ℕ, min, max, length, ap, ◌∙◌, refl, arith}
use Rattle.std.proofs.lemmas.List.{length_push}
use Rattle.std.specs.Prelude.{◌==◌, nat_le, nat_lt}
use Rattle.std.proofs.lemmas.Bool.Decides.{nat_tests}
use Rattle.point_paper.specs.declared.paper.Span.{Span}
use Rattle.strokes.specs.Spans.{IsInside}
use Rattle.strokes.proofs.Covers.{colour_push}
use Rattle.strokes.proofs.spans.rectangle.Goals as goal

-- one pick more of a rectangle
pick_more : (least right left low pick count c p : ℕ) → left ≡ least → left + count ≡ right + 1 → low ≤ pick
    → ((nat_le least c && nat_le c right && (nat_le low p && nat_lt p pick)) || ((p == pick) && nat_le left c && nat_lt c (left + count)))
    ≡ (nat_le least c && nat_le c right && (nat_le low p && nat_lt p (pick + 1)))
pick_more least right left low pick count c p is wide from = grind (arith, nat_tests)

pub loop-pick-preserved : goal.loop-pick-preserved
loop-pick-preserved c =
    let corners = c.args.corners.now in
    let span : Span = record { column = c.min-left.result; pick = c.loop-pick.pick; length = c.abs_diff-length.result + 1; colour = c.args.colour } in
    let inside : IsInside c.args.size span = record {
      some = omega arith;
      pick = omega (arith, c.loop-pick-test.true, c.max-high.ensures, c.requires.first.pick, c.requires.second.pick);
      columns = omega (arith, c.min-left.ensures, c.abs_diff-length.ensures, c.requires.first.column, c.requires.second.column);
    } in
    let wide : c.min-left.result + (c.abs_diff-length.result + 1) ≡ max corners.column0 corners.column1 + 1 = omega (arith, c.min-left.ensures, c.abs_diff-length.ensures) in
    let counted = c.loop-pick.invariant.0 in (
      omega (arith, ap length c.in_ok-push_span.ensures ∙ length_push c.loop-pick.spans.items span, counted),
      rw c.in_ok-push_span.ensures (colour_push c.args.size c.args.colour _ _ c.loop-pick.spans.items span c.loop-pick.invariant.1 inside refl
          (λ x p. pick_more (min corners.column0 corners.column1) (max corners.column0 corners.column1) c.min-left.result c.min-low.result c.loop-pick.pick (c.abs_diff-length.result + 1) x p
          c.min-left.ensures wide c.loop-pick.auto.pick)),
    )
