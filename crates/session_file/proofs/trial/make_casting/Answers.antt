use Rattle.std.proofs.Common.{◌≡◌, ℕ, ◌+◌, ◌*◌, List, None, ap, ◌∙◌, arith}
use Rattle.casting_out.specs.Faults.{casting_fault}
use Rattle.mill_base.proofs.lemmas.Lines.{length-line_by}
use Rattle.session_file.specs.Trials.{cast_out}
use Rattle.session_file.proofs.Trials.{cast_rising, cast_there}
use Rattle.session_file.proofs.trial.make_casting.Goals as goal

pub unreachable-requires : goal.unreachable-requires
unreachable-requires c =
    let law = c.hooks_that_are_cast_out_leave_the_others.ensures in
    let is = c.deref.ensures.value ∙ c.in_ok-hooks.ensures in
    let none : casting_fault 400 c.deref.result.now 384 ≡ None =
    ap (λ (hooks : List ℕ). casting_fault 400 hooks 384) is
    ∙ law.rising 400 cast_out 384 cast_there cast_rising (omega (arith, length-line_by 16 (λ (k : ℕ). 7 + 25 * k)))
    in
    grind (arith, none, c.in-Err.ensures)
