-- How an image is cut into strips of whole rows (TIFF 6.0, section 3).
use Rattle.std.specs.Prelude.{ℕ, ◌+◌, ◌-◌, ◌*◌, ◌/◌, ◌^◌, ◌==◌, min, List, if◌then◌else◌}
use Rattle.tiff_palette.specs.declared.layout.Layout.{Layout}
use Rattle.tiff_palette.specs.declared.tags.TheConstants.{IMAGE_WIDTH, IMAGE_LENGTH, BITS_PER_SAMPLE, ROWS_PER_STRIP}
use Rattle.tiff_palette.specs.Fields.{value_or}

-- what the fields of a file say of its rows; a file that does not say how many rows a strip has has one strip
unfoldable pub layout_of : List ℕ → Layout
layout_of bytes = record {
  width = value_or IMAGE_WIDTH 0 bytes;
  height = value_or IMAGE_LENGTH 0 bytes;
  bits = value_or BITS_PER_SAMPLE 0 bytes;
  rows_per_strip = value_or ROWS_PER_STRIP (2 ^ 32 - 1) bytes;
}

-- how many strips there are
unfoldable pub strips_of : Layout → ℕ
strips_of l = (l.height + l.rows_per_strip - 1) / l.rows_per_strip

-- the bytes of a row: two pixels of 4 bits share a byte
abbrev pub row_bytes : Layout → ℕ
row_bytes l = if l.bits == 8 then l.width else (l.width + 1) / 2

-- the bytes of the rows of strip k; the last strip may have fewer rows than the others
unfoldable pub strip_bytes : Layout → ℕ → ℕ
strip_bytes l k = min l.rows_per_strip (l.height - k * l.rows_per_strip) * row_bytes l
