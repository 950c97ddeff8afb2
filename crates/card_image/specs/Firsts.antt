-- The first of many answers.
use Rattle.std.specs.Prelude.{ℕ, zero, suc, Bool, Option, None, Some, if◌then◌else◌}
use Rattle.std.specs.Option.{option_or}

-- the first answer that the numbers below n give
abbrev pub first_of : {A : Type 0} → (ℕ → Option A) → ℕ → Option A
first_of answer zero = None
first_of answer (suc n) = option_or (first_of answer n) (answer n)

-- a number that passes the test, as an answer
abbrev pub passing : (ℕ → Bool) → ℕ → Option ℕ
passing test k = if test k then Some k else None
