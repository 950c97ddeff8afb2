use Rattle.std.proofs.Common.{◌≡◌, ◌+◌, ◌*◌, ◌++◌, ap, sym, ◌∙◌, refl, length, arith}
use Rattle.std.proofs.lemmas.Slice.{pushed}
use Rattle.point_paper.specs.Papers.{colours_by, image_cell}
use Rattle.point_paper.proofs.lemmas.Cells.{image_row, colours_more, length-colours_by}
use Rattle.point_paper.proofs.paper.Paper.from_rows.Goals as goal

pub loop-pick-init : goal.loop-pick-init
unfolding colours_by
loop-pick-init c = c.in_ok-colours.ensures.items

pub loop-pick-preserved : goal.loop-pick-preserved
loop-pick-preserved c =
    pushed _ c.loop-pick.invariant c.in_ok-extend_from_slice.was c.extend_from_slice.ensures.items
    ∙ ap (λ xs. colours_by c.args.size.columns c.loop-pick.pick (image_cell c.args.size.columns c.args.size.picks c.args.pixels.now) ++ xs)
    (image_row c.args.pixels.now c.args.size.columns c.args.size.picks c.loop-pick.pick c.requires c.loop-pick-test.true)
    ∙ sym (colours_more c.args.size.columns c.loop-pick.pick (c.loop-pick.pick + 1) (image_cell c.args.size.columns c.args.size.picks c.args.pixels.now) refl)

pub invariant_of-result : goal.invariant_of-result
invariant_of-result c =
    ap length c.loop-pick.invariant ∙ length-colours_by c.args.size.columns c.loop-pick.pick (image_cell c.args.size.columns c.args.size.picks c.args.pixels.now)
    ∙ (let e : c.loop-pick.pick ≡ c.args.size.picks = omega arith in ap (λ n. n * c.args.size.columns) e)
