-- Images that are read row by row.
use Rattle.std.specs.Prelude.{◌≡◌, ℕ, ◌+◌, ◌*◌, ◌/◌, ◌%◌, ◌<◌, List, length, map, slice_index}
use Rattle.mill_base.specs.declared.limits.TheConstants.{MAX_COLOURS}
use Rattle.std.specs.List.{range_with_len}
use Rattle.tiff_palette.specs.declared.layout.Layout.{Layout}
use Rattle.tiff_palette.specs.Pixels.{pixel_at, pixel_of, shade_of}

-- the pixels of the row that begins at a place
unfoldable pub row_at : Layout → List ℕ → ℕ → List ℕ
row_at l bytes place = map (pixel_at l bytes place) (range_with_len 0 l.width)

-- the pixels of the first n rows
pub record HasRows (l : Layout) (bytes : List ℕ) (n : ℕ) (pixels : List ℕ) : Type 0 where
  pub long : length pixels ≡ n * l.width
  pub each : (x y : ℕ) → x < l.width → y < n → slice_index pixels (y * l.width + x) ≡ pixel_of l bytes x y

-- the first n numbers of the colour map of 256 colours
pub record HasShades (bits : ℕ) (bytes : List ℕ) (n : ℕ) (colours : List ℕ) : Type 0 where
  pub long : length colours ≡ n
  pub each : (i : ℕ) → i < n → slice_index colours i ≡ shade_of bits bytes (i / MAX_COLOURS) (i % MAX_COLOURS)
