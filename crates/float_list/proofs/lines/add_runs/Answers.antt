use Rattle.std.proofs.Common.{List, ◌++◌, map, filter, take, refl, ap, ◌∙◌, arith}
use Rattle.std.proofs.lemmas.List.{take_all}
use Rattle.cloth_floats.specs.declared.Run.{Run}
use Rattle.cloth_floats.specs.Floats.{is_over}
use Rattle.float_list.specs.declared.list.TheConstants.{MAX_LISTED}
use Rattle.float_list.specs.declared.long_float.LongFloat.{LongFloat}
use Rattle.float_list.proofs.Kept.{kept_all, kept_few, kept_passed, count_passed}
use Rattle.float_list.proofs.lines.add_runs.Goals as goal

pub loop-run-init : goal.loop-run-init
loop-run-init c = record {
  listed = kept_all MAX_LISTED c.args.listed.now.items c.requires.room;
  count = refl;
  few = omega arith;
}

pub add_run-requires : goal.add_run-requires
add_run-requires c =
    let on : Run → LongFloat = λ (run : Run). record { kind = c.args.limits.kind; line = c.args.line; run = run } in
    record {
      room = kept_few MAX_LISTED
          (c.args.listed.now.items ++ map on (filter (is_over c.args.limits.lifted c.args.limits.unlifted) (take c.loop-run.run-index c.args.runs.now)))
          c.loop-run.listed.items c.loop-run.invariant.listed;
    }

pub loop-run-preserved : goal.loop-run-preserved
loop-run-preserved c =
    let on : Run → LongFloat = λ (run : Run). record { kind = c.args.limits.kind; line = c.args.line; run = run } in
    let few = c.loop-run.invariant.few in
    let most = c.in_ok-count.ensures.most in
    record {
      listed = kept_passed MAX_LISTED on (is_over c.args.limits.lifted c.args.limits.unlifted) c.args.runs.now c.loop-run.run-index _ c.args.listed.now.items
          c.loop-run.listed.items c.add_run.new.listed.items c.loop-run-test.true c.loop-run.invariant.listed c.in_ok-count.ensures.listed;
      count = count_passed (is_over c.args.limits.lifted c.args.limits.unlifted) c.args.runs.now c.loop-run.run-index _ c.loop-run.count c.in_ok-count.field-0
          c.loop-run-test.true c.loop-run.invariant.count c.in_ok-count.ensures.count;
      few = omega (arith, few, most);
    }

pub returns-clause-listed : goal.returns-clause-listed
returns-clause-listed c =
    let on : Run → LongFloat = λ (run : Run). record { kind = c.args.limits.kind; line = c.args.line; run = run } in
    let past = c.loop-run-test.false in
    c.loop-run.invariant.listed
    ∙ ap (λ (runs : List Run). take MAX_LISTED (c.args.listed.now.items ++ map on (filter (is_over c.args.limits.lifted c.args.limits.unlifted) runs)))
    (take_all c.loop-run.run-index c.args.runs.now (omega (arith, past)))
