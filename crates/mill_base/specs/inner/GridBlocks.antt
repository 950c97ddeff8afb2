-- Rows of which blocks of 64 by 64 positions are set anew.
use Rattle.std.specs.Prelude.{◌≡◌, ◌≢◌, ℕ, ◌+◌, ◌/◌, ◌%◌, ◌<◌, ◌==◌, Bool, List, [], length, slice_index, slice_index_or}
use Rattle.std.specs.Int.{bit_at}
use Rattle.mill_base.specs.Grids.{row_cell}

-- as many rows, each as long
pub record HaveSameSizes (old new : List (List Bool)) : Type 0 where
  pub height : length new ≡ length old
  pub widths : (k : ℕ) → length (slice_index_or new k []) ≡ length (slice_index_or old k [])

-- each row has a word of this number
abbrev pub HaveWord : List (List Bool) → ℕ → Type 0
HaveWord rows at = (k : ℕ) → k < length rows → at < (length (slice_index_or rows k []) + 63) / 64

-- word `at` of row k is another
pub record IsWordPut (word k at : ℕ) (old new : List (List Bool)) : Type 0 where
  pub sizes : HaveSameSizes old new
  pub here : (c : ℕ) → c / 64 ≡ at → k < length old → c < length (slice_index_or old k []) → row_cell new c k ≡ (bit_at word (c % 64) == 1)
  pub beside : (c : ℕ) → c / 64 ≢ at → row_cell new c k ≡ row_cell old c k
  pub others : (j : ℕ) → j ≢ k → slice_index_or new j [] ≡ slice_index_or old j []

-- word `at` of the first `count` of the 64 rows from 64 * band on is that of the block
pub record IsBlockPut (block : List ℕ) (band at count : ℕ) (old new : List (List Bool)) : Type 0 where
  pub sizes : HaveSameSizes old new
  pub here : (k c : ℕ) → k / 64 ≡ band → k % 64 < count → c / 64 ≡ at → k < length old → c < length (slice_index_or old k []) → row_cell new c k ≡ (bit_at (slice_index block (k % 64)) (c % 64) == 1)
  pub beside : (k c : ℕ) → c / 64 ≢ at → row_cell new c k ≡ row_cell old c k
  pub others : (k c : ℕ) → k / 64 ≢ band → row_cell new c k ≡ row_cell old c k

-- word `band` of the 64 rows from 64 * at on is of the columns of `rows`
pub record IsBlockTurned (rows : List (List Bool)) (band at : ℕ) (old new : List (List Bool)) : Type 0 where
  pub sizes : HaveSameSizes old new
  pub here : (k c : ℕ) → c / 64 ≡ band → k / 64 ≡ at → k < length old → c < length (slice_index_or old k []) → row_cell new c k ≡ row_cell rows k c
  pub beside : (k c : ℕ) → c / 64 ≢ band → row_cell new c k ≡ row_cell old c k
  pub others : (k c : ℕ) → k / 64 ≢ at → row_cell new c k ≡ row_cell old c k

-- word `band` of the rows below 64 * upto is of the columns of `rows`
pub record IsBandTurned (rows : List (List Bool)) (band upto : ℕ) (old new : List (List Bool)) : Type 0 where
  pub sizes : HaveSameSizes old new
  pub here : (k c : ℕ) → c / 64 ≡ band → k / 64 < upto → k < length old → c < length (slice_index_or old k []) → row_cell new c k ≡ row_cell rows k c
  pub beside : (k c : ℕ) → c / 64 ≢ band → row_cell new c k ≡ row_cell old c k

-- the words below `upto` of each row are of the columns of `rows`
pub record AreBandsTurned (rows : List (List Bool)) (upto : ℕ) (old new : List (List Bool)) : Type 0 where
  pub sizes : HaveSameSizes old new
  pub here : (k c : ℕ) → c / 64 < upto → k < length old → c < length (slice_index_or old k []) → row_cell new c k ≡ row_cell rows k c
