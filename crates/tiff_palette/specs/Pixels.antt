-- The pixels and the colours of a file (TIFF 6.0, section 5). Columns are counted from the left and rows from the top,
-- both from 0.
use Rattle.std.specs.Prelude.{ℕ, ◌+◌, ◌*◌, ◌/◌, ◌%◌, ◌^◌, ◌==◌, nat_lt, List, slice_index, if◌then◌else◌}
use Rattle.tiff_palette.specs.declared.layout.Layout.{Layout}
use Rattle.tiff_palette.specs.declared.tags.TheConstants.{STRIP_OFFSETS, COLOR_MAP}
use Rattle.tiff_palette.specs.Fields.{value_of}
use Rattle.tiff_palette.specs.Layouts.{row_bytes}

-- row y stands in strip y / rows_per_strip, behind the rows of that strip that lie above it
unfoldable pub row_place : Layout → List ℕ → ℕ → ℕ
row_place l bytes y = value_of STRIP_OFFSETS (y / l.rows_per_strip) bytes + y % l.rows_per_strip * row_bytes l

-- the left of the two pixels of a byte stands in its higher half
abbrev pub nibble : ℕ → ℕ → ℕ
nibble byte x = if x % 2 == 0 then byte / 16 else byte % 16

-- the pixel in column x of the row that begins at a place: a byte, or half a byte
unfoldable pub pixel_at : Layout → List ℕ → ℕ → ℕ → ℕ
pixel_at l bytes place x = if l.bits == 8 then slice_index bytes (place + x) else nibble (slice_index bytes (place + x / 2)) x

-- the pixel in column x of row y
abbrev pub pixel_of : Layout → List ℕ → ℕ → ℕ → ℕ
pixel_of l bytes x y = pixel_at l bytes (row_place l bytes y) x

-- the red (part 0), green (1) or blue (2) of colour k: the map has all reds, all greens, all blues, of 2^bits colours;
-- any other colour is 0
unfoldable pub shade_of : ℕ → List ℕ → ℕ → ℕ → ℕ
shade_of bits bytes part k = if nat_lt k (2 ^ bits) then value_of COLOR_MAP (part * 2 ^ bits + k) bytes else 0
