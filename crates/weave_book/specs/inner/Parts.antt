-- Lines of cells, 64 to a word.
use Rattle.std.specs.Prelude.{◌≡◌, ℕ, ◌+◌, ◌<◌, ◌≤◌, ◌==◌, Bool, [], length, slice_index_or}
use Rattle.std.specs.Int.{bit_at}
use Rattle.weave_book.specs.declared.weaves.Weave.{Weave}
use Rattle.weave_book.specs.declared.weaves.Weave.TheVariants.{Blank, Full, Plain, Twill, Satin, Rows}

-- the lowest n bits of a word are the cells of a line from place `from` on
abbrev pub AreCells : (ℕ → Bool) → ℕ → ℕ → ℕ → Type 0
AreCells line from n word = (j : ℕ) → j < n → (bit_at word j == 1) ≡ line (from + j)

-- the line is the same again after n places
abbrev pub Repeats : (ℕ → Bool) → ℕ → Type 0
Repeats line n = (x : ℕ) → line (x + n) ≡ line x

-- a line that comes again after so many places, with its first 64 cells in a word
pub record IsPattern (line : ℕ → Bool) (repeat word : ℕ) : Type 0 where
  pub few : repeat ≤ 64
  pub again : Repeats line repeat
  pub cells : AreCells line 0 64 word

-- after how many columns a weave has the same marks again, on each pick
abbrev pub repeat_of : Weave → ℕ
repeat_of Blank = 1
repeat_of Full = 1
repeat_of Plain = 2
repeat_of (Twill up down direction) = up + down
repeat_of (Satin n s face) = n
repeat_of (Rows rows) = length (slice_index_or rows 0 [])
