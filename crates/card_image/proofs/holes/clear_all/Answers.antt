use Rattle.std.proofs.Common.{◌<◌, ◌≤◌, ⊎_elim, arith}
use Rattle.std.proofs.lemmas.List.{get_or_past}
use Rattle.std.proofs.lemmas.Bool.{cases_lt}
use Rattle.card_image.proofs.holes.clear_all.Goals as goal

pub returns-clause-clear : goal.returns-clause-clear
returns-clause-clear c j = ⊎_elim
    (λ (low : j < c.loop-at.at). c.loop-at.invariant.1 j low)
    (λ (past : c.loop-at.at ≤ j). get_or_past c.loop-at.out j 0 (omega (arith, past, c.loop-at-test.false, c.loop-at.invariant.0)))
    (cases_lt j c.loop-at.at)
