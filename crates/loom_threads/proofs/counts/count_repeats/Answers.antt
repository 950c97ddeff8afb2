use Rattle.std.proofs.Common.{ℕ, List, get_or, ap, arith}
use Rattle.session_file.specs.Plans.{repeats_in}
use Rattle.loom_threads.proofs.Stated.{next_fits}
use Rattle.loom_threads.proofs.counts.count_repeats.Goals as goal

pub overflow_add-sum : goal.overflow_add-sum
overflow_add-sum c =
    let shifts = c.as_slice-plan-items.result.now in
    omega (
      arith,
      next_fits shifts c.args.number c.loop-plan.plan-index c.plan-item.result c.loop-plan-test.true c.plan-item.is,
      ap repeats_in c.as_slice-plan-items.ensures,
      c.requires.fits.repeats,
      c.loop-plan.invariant,
      ap (λ (xs : List ℕ). get_or xs c.args.number 0) c.as_slice.ensures,
    )
