use Rattle.std.proofs.Common.{◌≡◌, ◌≤◌, ◌++◌, length, map, filter, take}
use Rattle.cloth_floats.specs.Floats.{is_over}
use Rattle.float_list.specs.declared.list.TheConstants.{MAX_LISTED}
use Rattle.float_list.proofs.lines.add_runs.Given as goal

abbrev pub invariant-loop-run : goal.invariant-loop-run
invariant-loop-run l = record {
  listed : l.listed.items ≡ take MAX_LISTED (l.initial.listed.items
      ++ map (λ run. record { kind = l.limits.kind; line = l.line; run = run }) (filter (is_over l.limits.lifted l.limits.unlifted) (take l.run-index l.runs)));
  count : l.count ≡ length (filter (is_over l.limits.lifted l.limits.unlifted) (take l.run-index l.runs));
  few : l.count ≤ l.run-index;
}
