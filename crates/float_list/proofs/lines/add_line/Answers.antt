use Rattle.std.proofs.Common.{rules, ◌≡◌, false, List, ◌++◌, length, take, sym, ap, ◌∙◌, arith}
use Rattle.float_list.specs.declared.list.TheConstants.{MAX_LISTED}
use Rattle.float_list.specs.declared.long_float.LongFloat.{LongFloat}
use Rattle.float_list.proofs.Kept.{kept_all}
use Rattle.float_list.proofs.Overs.{few_runs, few_over, none_over, count_over, listed_over}
use Rattle.float_list.proofs.lines.add_line.Goals as goal

pub returns-then-not-is_long-clause-count : goal.returns-then-not-is_long-clause-count
returns-then-not-is_long-clause-count c =
    let short : c.args.is_long ≡ false = search (rules, c.if-not-is_long.true) in
    sym (ap length (none_over c.args.limits c.args.line c.args.cells.now (c.requires.none short)))

pub returns-then-not-is_long-clause-listed : goal.returns-then-not-is_long-clause-listed
returns-then-not-is_long-clause-listed c =
    let short : c.args.is_long ≡ false = search (rules, c.if-not-is_long.true) in
    kept_all MAX_LISTED c.args.listed.now.items c.requires.room
    ∙ ap (λ (floats : List LongFloat). take MAX_LISTED (c.args.listed.now.items ++ floats))
    (sym (none_over c.args.limits c.args.line c.args.cells.now (c.requires.none short)))

pub add_runs-requires-clause-few : goal.add_runs-requires-clause-few
add_runs-requires-clause-few c =
    let few = few_runs c.args.cells.now c.requires.cells in
    let are = ap length (c.deref.ensures.value ∙ c.in_ok-runs.ensures) in
    let most = c.requires.most in
    omega (arith, few, are, most)

pub returns-clause-count : goal.returns-clause-count
returns-clause-count c =
    count_over c.args.limits c.args.line c.args.cells.now c.deref.result.now c.in_ok-count.count (c.deref.ensures.value ∙ c.in_ok-runs.ensures) c.in_ok-count.ensures.count

pub returns-clause-most : goal.returns-clause-most
returns-clause-most c =
    let count = count_over c.args.limits c.args.line c.args.cells.now c.deref.result.now c.in_ok-count.count (c.deref.ensures.value ∙ c.in_ok-runs.ensures) c.in_ok-count.ensures.count in
    let few = few_over c.args.limits c.args.line c.args.cells.now c.requires.cells in
    omega (arith, count, few)

pub returns-clause-listed : goal.returns-clause-listed
returns-clause-listed c =
    listed_over MAX_LISTED c.args.limits c.args.line c.args.cells.now c.deref.result.now c.args.listed.now.items c.add_runs.new.listed.items
    (c.deref.ensures.value ∙ c.in_ok-runs.ensures) c.in_ok-count.ensures.listed
