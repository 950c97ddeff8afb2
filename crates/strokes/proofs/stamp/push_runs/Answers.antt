use Rattle.std.proofs.Common.{◌-◌, ◌+◌, take, subst, arith}
use Rattle.std.specs.Prelude.{slice_index_or, None}
use Rattle.std.proofs.lemmas.List.{take_all}
use Rattle.strokes.specs.inner.Spans.{AreAdded, laid, run}
use Rattle.strokes.proofs.Covers.{added_twice}
use Rattle.strokes.proofs.Runs.{laid_more}
use Rattle.strokes.proofs.stamp.push_runs.Goals as goal

pub loop-start-preserved : goal.loop-start-preserved
loop-start-preserved c = (
  c.run_end-end.ensures.within,
  λ size all inside.
      let cells = c.args.cells.now in
      let start = c.loop-start.start in
      let end = c.run_end-end.result in
      let cell = slice_index_or cells start None in
      added_twice size all (laid (take start cells) c.args.column c.args.pick) (run cell (c.args.column + start) c.args.pick (end - start)) (laid (take end cells) c.args.column c.args.pick)
      c.args.spans.now.items c.loop-start.spans.items c.push_run.new.spans.items (c.loop-start.invariant.1 size all inside)
      (c.in_ok-push_run.ensures size all inside.low (let h = inside.within in omega (arith, c.run_end-end.ensures.within, c.run_end-end.ensures.ahead))
      (inside.among start c.loop-start-test.true))
      (λ x y _ _. laid_more cells start end c.args.column c.args.pick x y cell (let h = c.run_end-end.ensures.ahead in omega arith) c.run_end-end.ensures.within c.run_end-end.ensures.equal),
)

pub returns : goal.returns
returns c size all inside =
    subst (λ cells. AreAdded size all (laid cells c.args.column c.args.pick) c.args.spans.now.items c.loop-start.spans.items) (take_all c.loop-start.start c.args.cells.now c.loop-start-test.false)
    (c.loop-start.invariant.1 size all inside)
