use Rattle.std.proofs.Common.{◌+◌, ◌<◌, ◌≤◌, refl, ap, arith}
use Rattle.strokes.specs.Paints.{stamped}
use Rattle.strokes.specs.inner.Spans.{laid_round, stamped_below}
use Rattle.strokes.proofs.Covers.{added_twice, added_alike}
use Rattle.strokes.proofs.Stamps.{row_among, stamped_more, stamped_all}
use Rattle.strokes.proofs.stamp.push_stamp.Goals as goal

pub loop-row-preserved : goal.loop-row-preserved
loop-row-preserved c =
    let motif = c.args.motif.now in
    let size = c.args.size in
    let row = c.loop-row.row in
    let at = c.round-at.result in
    let cells = c.pick.result.now in
    let low : row < motif.picks = omega (arith, c.loop-row-test.true, ap (λ s. s.picks) c.size-row-end.ensures.size) in
    added_twice size motif.cells (stamped_below motif size c.args.column c.args.pick row) (laid_round cells size.columns c.args.column at)
    (stamped_below motif size c.args.column c.args.pick (row + 1)) c.args.spans.now.items c.loop-row.spans.items c.push_row.new.spans.items c.loop-row.invariant
    (c.in_ok-push_row.ensures size motif.cells refl c.round-at.ensures.within (row_among motif row cells c.pick.ensures))
    (λ x y _ below. stamped_more motif size c.args.column c.args.pick row at x y cells c.pick.ensures low (c.round-at.ensures.steps y below))

pub returns : goal.returns
returns c =
    let motif = c.args.motif.now in
    let all : motif.picks ≤ c.loop-row.row = omega (arith, c.loop-row-test.false, ap (λ s. s.picks) c.size-row-end.ensures.size) in
    added_alike c.args.size motif.cells (stamped_below motif c.args.size c.args.column c.args.pick c.loop-row.row) (stamped motif c.args.size c.args.column c.args.pick) c.args.spans.now.items
    c.loop-row.spans.items c.loop-row.invariant (λ x y _ _. stamped_all motif c.args.size c.args.column c.args.pick c.loop-row.row x y all)
