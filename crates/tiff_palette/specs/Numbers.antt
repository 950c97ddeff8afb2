-- Numbers in the bytes of a file (TIFF 6.0, section 2).
use Rattle.std.specs.Prelude.{ℕ, List, drop, slice_index, ◌==◌, if◌then◌else◌}
use Rattle.byteorder.specs.Endian.{little_number, big_number}
use Rattle.tiff_palette.specs.declared.numbers.Order.{Order}
use Rattle.tiff_palette.specs.declared.numbers.Order.TheVariants.{Little, Big}

-- the number of n bytes at a place, in an order of bytes
unfoldable pub number_at : Order → ℕ → ℕ → List ℕ → ℕ
number_at Little n place bytes = little_number n (drop place bytes)
number_at Big n place bytes = big_number n (drop place bytes)

-- a file that begins with `M` has the highest byte of a number first, any other the lowest
unfoldable pub order_of : List ℕ → Order
order_of bytes = if slice_index bytes 0 == 77 then Big else Little

-- the number of n bytes at a place of a file, in the file's own order
abbrev pub number : ℕ → ℕ → List ℕ → ℕ
number n place bytes = number_at (order_of bytes) n place bytes
