-- Numbers within bounds.
use Rattle.std.specs.Prelude.{ℕ, ◌≤◌}

-- from the least to the greatest, both included
abbrev pub IsWithin : ℕ → ℕ → ℕ → Type 0
IsWithin least n greatest = (least ≤ n) × (n ≤ greatest)
