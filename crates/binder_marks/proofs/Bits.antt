-- The rule of a bound cell on bits of numbers.
use Rattle.std.proofs.Common.{◌≡◌, ◌-◌, ◌<◌, ◌==◌, ℕ, min, max, arith}
use Rattle.std.proofs.lemmas.Bool.Decides.{nat_tests}
use Rattle.binder_marks.specs.Bound.{bound_cell}

pub rule_on_bits : (raw long raise sink : ℕ) → raw < 2 → long < 2 → raise < 2 → sink < 2
    → (max (min raw (1 - min long sink)) (min (min long raise) (1 - raw)) == 1) ≡ bound_cell (raw == 1) (long == 1) (raise == 1) (sink == 1)
rule_on_bits raw long raise sink in_raw in_long in_raise in_sink = grind (arith, nat_tests)
