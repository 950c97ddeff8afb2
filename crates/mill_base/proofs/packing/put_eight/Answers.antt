use Rattle.std.proofs.Common.{rules, ◌+◌, ◌*◌, ◌<◌, ◌≤◌, ⊎_elim, arith}
use Rattle.std.proofs.lemmas.Bool.{cases_lt}
use Rattle.std.proofs.lemmas.List.{places}
use Rattle.mill_base.proofs.packing.put_eight.Goals as goal

pub returns-clause-others : goal.returns-clause-others
returns-clause-others c j ne = ⊎_elim
    (λ (below : j < 8 * c.args.index). search (rules, places))
    (λ (from : 8 * c.args.index ≤ j). let past : 8 * c.args.index + 8 ≤ j = omega arith in search (rules, places))
    (cases_lt j (8 * c.args.index))
