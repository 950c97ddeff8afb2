use Rattle.std.proofs.Common.{List, Bool, length, ap}
use Rattle.mill_base.specs.declared.face.Face.TheVariants.{Up}
use Rattle.loom_threads.proofs.Lifting.{woven_lines, woven_rows}
use Rattle.loom_threads.proofs.laws.lifted_rows_are_the_drawdown.Goals as goal

pub returns-clause-rows : goal.returns-clause-rows
returns-clause-rows c design face paper is fits = woven_rows c.what_is_lifted_is_the_cloth.ensures.row design face paper is fits

pub returns-clause-up : goal.returns-clause-up
returns-clause-up c design paper is fits =
    ap (λ (rows : List (List Bool)). record { ends = length design.tie.ends; rows = rows }) (woven_lines c.what_is_lifted_is_the_cloth.ensures.row design Up paper is fits)
