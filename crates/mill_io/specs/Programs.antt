-- Which program the words of the command line call. The words are this project's own.
use Rattle.std.specs.Prelude.{ℕ, Bool, ◌||◌, bytes_eq, codes, List, [], ◌∷◌, map, String, if◌then◌else◌}
use Rattle.std.specs.String.{string_bytes}
use Rattle.std.specs.declared.alloc.Global.{Global}
use Rattle.mill_io.specs.declared.program.Program.{Program}
use Rattle.mill_io.specs.declared.program.Program.TheVariants.{Studio, Help, CommandHelp, Version, Audit, Recall, Keep}

-- the words as bytes
abbrev pub texts : List (String Global) → List (List ℕ)
texts words = map (λ word. string_bytes word) words

abbrev pub asks_help : List ℕ → Bool
asks_help word = bytes_eq word (codes "help") || bytes_eq word (codes "--help") || bytes_eq word (codes "-h")

abbrev pub asks_version : List ℕ → Bool
asks_version word = bytes_eq word (codes "version") || bytes_eq word (codes "--version")

-- by the first word alone
abbrev pub program_of_first : List ℕ → Program
program_of_first word =
    if bytes_eq word (codes "audit") then Audit
    else if bytes_eq word (codes "recall") then Recall
    else if bytes_eq word (codes "keep") then Keep
    else Studio

-- by a word that stands alone
abbrev pub program_of_word : List ℕ → Program
program_of_word word = if asks_help word then Help else if asks_version word then Version else program_of_first word

-- `help`, `version`, a word with `--help` behind it, or else what the first word names
abbrev pub program_of : List (List ℕ) → Program
program_of [] = Studio
program_of (word ∷ []) = program_of_word word
program_of (first ∷ second ∷ []) = if bytes_eq second (codes "--help") then CommandHelp else program_of_first first
program_of (first ∷ second ∷ rest) = program_of_first first
