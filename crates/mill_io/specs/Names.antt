-- How a line tells a name or a key, so that it stays one line and plays no tricks on a terminal. It is this project's own.
use Rattle.std.specs.Prelude.{ℕ, ◌/◌, ◌%◌, List, [], ◌∷◌, ◌++◌, map, if◌then◌else◌}
use Rattle.std.specs.Char.{digit_char, encode_utf8, is_control}
use Rattle.std.specs.List.{concat}
use Rattle.std.specs.Str.{chars}

-- a backslash, an x, and the code in two hexadecimal digits
abbrev pub escape : ℕ → List ℕ
escape code = 92 ∷ 120 ∷ digit_char (code / 16) ∷ digit_char (code % 16) ∷ []

-- a character as it is told: a control character (below 32, 127, and from 128 to 159) by its code, each other in UTF-8
abbrev pub shown_char : ℕ → List ℕ
shown_char c = if is_control c then escape c else encode_utf8 c

-- a name as it is told
unfoldable pub shown_name : List ℕ → List ℕ
shown_name name = concat (map shown_char (chars name))
