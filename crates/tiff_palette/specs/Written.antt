-- The file that is written for an image: little-endian, 8 bits a pixel, in strips of about 8 kilobytes, as TIFF 6.0
-- advises (section 3).
use Rattle.std.specs.Prelude.{◌≡◌, ℕ, ◌+◌, ◌*◌, ◌/◌, ◌≤◌, ◌==◌, max, codes, List, [], ◌++◌, length, map, if◌then◌else◌}
use Rattle.std.specs.List.{range_with_len, flat_map}
use Rattle.byteorder.specs.Endian.{little_bytes}
use Rattle.mill_base.specs.Limits.{IsWithin}
use Rattle.mill_base.specs.declared.limits.TheConstants.{MAX_COLOURS, MAX_ENDS, MAX_PICKS, MAX_CLOTH_CELLS}
use Rattle.tiff_palette.specs.declared.entry.TheConstants.{SHORT, LONG, RATIONAL}
use Rattle.tiff_palette.specs.declared.image.PaletteImage.{PaletteImage}
use Rattle.tiff_palette.specs.declared.layout.Layout.{Layout}
use Rattle.tiff_palette.specs.declared.writing.TheConstants.{DIRECTORY, X_RESOLUTION_VALUE, Y_RESOLUTION_VALUE, COLOURS, LISTS, STRIP_SIZE}
use Rattle.tiff_palette.specs.declared.tags.TheConstants.{IMAGE_WIDTH, IMAGE_LENGTH, BITS_PER_SAMPLE, COMPRESSION, PHOTOMETRIC_INTERPRETATION, STRIP_OFFSETS, ROWS_PER_STRIP, STRIP_BYTE_COUNTS, X_RESOLUTION, Y_RESOLUTION, RESOLUTION_UNIT, COLOR_MAP}
use Rattle.tiff_palette.specs.Layouts.{strips_of, strip_bytes}

-- an image that can be written: no larger than a cloth, with a pixel at each place and a map of 256 reds, greens and
-- blues
pub record IsWritable (image : PaletteImage) : Type 0 where
  pub width : IsWithin 1 image.width MAX_ENDS
  pub height : IsWithin 1 image.height MAX_PICKS
  pub cells : image.width * image.height ≤ MAX_CLOTH_CELLS
  pub drawn : length image.pixels ≡ image.width * image.height
  pub mapped : length image.colour_map ≡ 3 * MAX_COLOURS

-- the rows of a strip are as many as 8192 bytes hold, and one at least
abbrev pub written_layout : PaletteImage → Layout
written_layout image = record { width = image.width; height = image.height; bits = 8; rows_per_strip = max 1 (STRIP_SIZE / image.width) }

-- an entry: tag, type, count, and the value or its offset. A SHORT stands in the first of its four bytes, which is the
-- same number of four bytes
abbrev pub entry_bytes : ℕ → ℕ → ℕ → ℕ → List ℕ
entry_bytes tag kind count value = little_bytes 2 tag ++ little_bytes 2 kind ++ little_bytes 4 count ++ little_bytes 4 value

-- the offset and the count of bytes of one strip stand in their entries; those of several stand behind the map, all
-- offsets first
abbrev pub counts_value : ℕ → ℕ → ℕ
counts_value strips bytes = if strips == 1 then bytes else LISTS + 4 * strips

-- where the pixels begin
abbrev pub pixels_place : ℕ → ℕ
pixels_place strips = if strips == 1 then LISTS else LISTS + 8 * strips

-- the header, the directory with its twelve entries, no further directory, and twice the resolution 72 / 1
unfoldable pub head_of : Layout → ℕ → List ℕ
head_of l strips =
    codes "II" ++ little_bytes 2 42 ++ little_bytes 4 DIRECTORY ++ little_bytes 2 12
    ++ entry_bytes IMAGE_WIDTH LONG 1 l.width
    ++ entry_bytes IMAGE_LENGTH LONG 1 l.height
    ++ entry_bytes BITS_PER_SAMPLE SHORT 1 8
    ++ entry_bytes COMPRESSION SHORT 1 1
    ++ entry_bytes PHOTOMETRIC_INTERPRETATION SHORT 1 3
    ++ entry_bytes STRIP_OFFSETS LONG strips LISTS
    ++ entry_bytes ROWS_PER_STRIP LONG 1 l.rows_per_strip
    ++ entry_bytes STRIP_BYTE_COUNTS LONG strips (counts_value strips (l.width * l.height))
    ++ entry_bytes X_RESOLUTION RATIONAL 1 X_RESOLUTION_VALUE
    ++ entry_bytes Y_RESOLUTION RATIONAL 1 Y_RESOLUTION_VALUE
    ++ entry_bytes RESOLUTION_UNIT SHORT 1 2
    ++ entry_bytes COLOR_MAP SHORT (3 * MAX_COLOURS) COLOURS
    ++ little_bytes 4 0 ++ little_bytes 4 72 ++ little_bytes 4 1 ++ little_bytes 4 72 ++ little_bytes 4 1

-- where strip k begins
unfoldable pub written_offset : Layout → ℕ → ℕ
written_offset l k = pixels_place (strips_of l) + k * l.rows_per_strip * l.width

-- the offsets and the counts of bytes of several strips
unfoldable pub lists_of : Layout → List ℕ
lists_of l =
    if strips_of l == 1 then []
    else flat_map (little_bytes 4) (map (written_offset l) (range_with_len 0 (strips_of l))) ++ flat_map (little_bytes 4) (map (strip_bytes l) (range_with_len 0 (strips_of l)))

-- the whole file: the head, the colour map, the lists of strips, and the pixels, the top row first
unfoldable pub tiff_of : PaletteImage → List ℕ
tiff_of image =
    head_of (written_layout image) (strips_of (written_layout image)) ++ flat_map (little_bytes 2) image.colour_map ++ lists_of (written_layout image) ++ image.pixels
