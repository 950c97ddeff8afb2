-- Sums that are told in 64 bits.
use Rattle.std.specs.Prelude.{ℕ, ◌-◌, ◌^◌, min}

-- a number over 64 bits is told as the greatest of them
abbrev pub told : ℕ → ℕ
told n = min n (2 ^ 64 - 1)
