-- Where the value of digits ends.
use Rattle.std.specs.Prelude.{◌≡◌, ◌⊎◌, ℕ, ◌+◌, ◌*◌, ◌<◌, false}
use Rattle.std.specs.Char.{is_ascii_digit, digit_value}

-- no value continues: the byte is no digit, or the value with it is too large
abbrev pub IsNoStep : ℕ → ℕ → Type 0
IsNoStep value digit = (is_ascii_digit digit ≡ false) ⊎ (4294967295 < value * 10 + digit_value digit)
