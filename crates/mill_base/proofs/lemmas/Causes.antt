-- Counts of faults over several calls.
use Rattle.std.proofs.Common.{ℕ, ◌≤◌, Result, Ok, Err, arith}
use Rattle.mill_base.specs.Causes.{HasCause, Rose}

-- what rose first and did not fall since has risen
pub rose_first : (before middle now : ℕ) → Rose before middle → middle ≤ now → Rose before now
rose_first before middle now rose later = omega (arith, rose, later)

-- what did not fall and rose then has risen
pub rose_then : (before middle now : ℕ) → before ≤ middle → Rose middle now → Rose before now
rose_then before middle now later rose = omega (arith, later, rose)

-- a cause that came after calls that did not let the count fall
pub cause_then : {T E : Type 0} (before middle now : ℕ) (r : Result T E) → before ≤ middle → HasCause middle now r → HasCause before now r
cause_then before middle now (Ok value) h cause = record { later = omega (arith, h, cause.later); failed = tt }
cause_then before middle now (Err refusal) h cause = record { later = omega (arith, h, cause.later); failed = rose_then before middle now h cause.failed }
