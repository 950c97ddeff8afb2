-- The trial session has one painter in each shift.
use Rattle.std.proofs.Common.{◌≡◌, ◌≤◌, ℕ, zero, suc, List, Option, length, sym, subst, arith}
use Rattle.std.specs.Prelude.{All}
use Rattle.mill_io.specs.Files.{File}
use Rattle.session_file.specs.Trials.{trial, trial_draft}
use Rattle.session_file.specs.declared.session.Session.{Session}
use Rattle.session_file.specs.declared.session.ShiftPlan.{ShiftPlan}
use Rattle.studio_run.specs.declared.command.Command.{Command}
use Rattle.studio_run.specs.declared.command.Command.TheVariants.{Weave, Check, Draw, Paper, Cards, Lift, Trial}
use Rattle.studio_run.specs.Outputs.{IsAbout}
use Rattle.studio_run.specs.inner.Ends.{FixesOrder}

trial_has_one_painter : (n : ℕ) → All (λ (plan : ShiftPlan). length plan.painters ≤ 1) (trial n).shifts
unfolding trial trial_draft
trial_has_one_painter n zero d h = omega arith
trial_has_one_painter n (suc zero) d h = omega arith
trial_has_one_painter n (suc (suc k)) d h = absurd (omega arith)

-- the session of a command, where it is a trial, has one painter in each shift
pub order_fixed : (command : Command) (words : List (List ℕ)) (files : Option (List File)) (session : Session)
    → IsAbout command words files session → FixesOrder command session
order_fixed Weave words files session about = tt
order_fixed Check words files session about = tt
order_fixed Draw words files session about = tt
order_fixed Paper words files session about = tt
order_fixed (Cards face) words files session about = tt
order_fixed Lift words files session about = tt
order_fixed (Trial n) words files session about = subst (λ (s : Session). All (λ (plan : ShiftPlan). length plan.painters ≤ 1) s.shifts) (sym about) (trial_has_one_painter n)
