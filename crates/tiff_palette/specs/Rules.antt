-- The rules of a palette image, in the order in which they are tried. The header and the directory are those of TIFF
-- 6.0, section 2, and the fields those of its sections 3 to 5. Which values are taken, and the order, are this
-- project's own.
use Rattle.std.specs.Prelude.{ℕ, ◌+◌, ◌-◌, ◌*◌, ◌^◌, ◌==◌, nat_le, nat_lt, Bool, true, false, ◌&&◌, ◌||◌, List, [], ◌∷◌, ◌++◌, length, slice_index, slice_get, Option}
use Rattle.std.specs.List.{range_with_len, flat_map}
use Rattle.std.specs.Option.{option_map_or}
use Rattle.mill_base.specs.declared.limits.TheConstants.{MAX_COLUMNS, MAX_PICKS}
use Rattle.tiff_palette.specs.declared.entry.Entry.{Entry}
use Rattle.tiff_palette.specs.declared.fault.TiffFault.{TiffFault}
use Rattle.tiff_palette.specs.declared.fault.TiffFault.TheVariants.{Truncated, NotTiff, NoDirectory, Missing, BadField, Compressed, Photometric, Bits, Samples, FillOrder, Orientation, TooLarge, ColorMapCount, StripCount, ShortStrip}
use Rattle.tiff_palette.specs.declared.tags.TheConstants.{IMAGE_WIDTH, IMAGE_LENGTH, BITS_PER_SAMPLE, COMPRESSION, PHOTOMETRIC_INTERPRETATION, FILL_ORDER, STRIP_OFFSETS, ORIENTATION, SAMPLES_PER_PIXEL, ROWS_PER_STRIP, STRIP_BYTE_COUNTS, COLOR_MAP}
use Rattle.tiff_palette.specs.Numbers.{number}
use Rattle.tiff_palette.specs.Directories.{directory_place, entry_count, entry_place, field_of}
use Rattle.tiff_palette.specs.Fields.{is_short, is_whole, value_of, value_or, values_end}
use Rattle.tiff_palette.specs.Layouts.{layout_of, strips_of, strip_bytes}

-- a rule takes the bytes of a file and gives the faults that it finds there
abbrev pub Rule : Type 0
Rule = List ℕ → List TiffFault

-- some rules, one after another
abbrev pub all_of : List Rule → Rule
all_of [] bytes = []
all_of (rule ∷ rules) bytes = rule bytes ++ all_of rules bytes

-- the fault, unless the test is passed
abbrev pub unless : Bool → TiffFault → List TiffFault
unless true fault = []
unless false fault = fault ∷ []

-- a field has one value of some type; `absent` has the faults of a file without the field
unfoldable pub one_value : ℕ → (Entry → Bool) → List TiffFault → Rule
one_value tag typed absent bytes = option_map_or (λ entry. unless (typed entry && entry.count == 1) (BadField tag)) (field_of bytes tag) absent

-- the value of a field, or the default where the field is absent, is allowed
abbrev pub allows : ℕ → ℕ → (ℕ → Bool) → (ℕ → TiffFault) → Rule
allows tag default allowed fault bytes = unless (allowed (value_or tag default bytes)) (fault (value_or tag default bytes))

-- a field that has to be there: its type, the values that are allowed, and the fault of another value
unfoldable pub required : ℕ → (Entry → Bool) → (ℕ → Bool) → (ℕ → TiffFault) → Rule
required tag typed allowed fault = all_of (one_value tag typed (Missing tag ∷ []) ∷ allows tag 0 allowed fault ∷ [])

-- a field that may be absent: its type, what its absence counts as, the values that are allowed, and the fault of
-- another value
unfoldable pub optional : ℕ → (Entry → Bool) → ℕ → (ℕ → Bool) → (ℕ → TiffFault) → Rule
optional tag typed default allowed fault = all_of (one_value tag typed [] ∷ allows tag default allowed fault ∷ [])

-- the type of an entry, its count of values, and that they lie in the file, in this order
abbrev pub many_values : ℕ → (Entry → Bool) → ℕ → (ℕ → ℕ → TiffFault) → ℕ → Entry → List TiffFault
many_values tag typed count fault end entry =
    unless (typed entry) (BadField tag) ++ (unless (entry.count == count) (fault count entry.count) ++ unless (nat_le (values_end entry) end) (BadField tag))

-- a field that has to be there: its type, its count of values, and the fault of another count
unfoldable pub many : ℕ → (Entry → Bool) → (List ℕ → ℕ) → (ℕ → ℕ → TiffFault) → Rule
many tag typed count fault bytes = option_map_or (many_values tag typed (count bytes) fault (length bytes)) (field_of bytes tag) (Missing tag ∷ [])

-- how many numbers the map of a file has, and how many strips it has
abbrev pub map_count : List ℕ → ℕ
map_count bytes = 3 * 2 ^ (layout_of bytes).bits

abbrev pub strip_count : List ℕ → ℕ
strip_count bytes = strips_of (layout_of bytes)

-- a field that has to be there, with one value for each strip
unfoldable pub one_per_strip : ℕ → Rule
one_per_strip tag = many tag is_whole strip_count (StripCount tag)

-- strip k has as many bytes as its rows need, and they lie in the file
unfoldable pub is_held : List ℕ → ℕ → Bool
is_held bytes k =
    nat_le (strip_bytes (layout_of bytes) k) (value_of STRIP_BYTE_COUNTS k bytes)
    && nat_le (value_of STRIP_OFFSETS k bytes + strip_bytes (layout_of bytes) k) (length bytes)

-- the strips from 0 on, of which so many are looked at
unfoldable pub short_strips : List ℕ → ℕ → List TiffFault
short_strips bytes n = flat_map (λ k. unless (is_held bytes k) (ShortStrip k)) (range_with_len 0 n)

-- a file begins with `II`, lowest bytes first, or with `MM`, highest bytes first
abbrev pub is_marked : List ℕ → Bool
is_marked bytes = (slice_index bytes 0 == 73 && slice_index bytes 1 == 73) || (slice_index bytes 0 == 77 && slice_index bytes 1 == 77)

-- the header, with the number 42 in the order of bytes, and the first directory
unfoldable pub head_rules : List Rule
head_rules =
    (λ bytes. unless (nat_le 8 (length bytes)) Truncated)
    ∷ (λ bytes. unless (is_marked bytes) NotTiff)
    ∷ (λ bytes. unless (number 2 2 bytes == 42) NotTiff)
    ∷ (λ bytes. unless (nat_le 8 (directory_place bytes)) NoDirectory)
    ∷ (λ bytes. unless (nat_le (directory_place bytes + 2) (length bytes)) Truncated)
    ∷ (λ bytes. unless (nat_lt 0 (entry_count bytes)) NoDirectory)
    ∷ (λ bytes. unless (nat_le (entry_place bytes (entry_count bytes)) (length bytes)) Truncated)
    ∷ []

-- a palette image of 4 or 8 bits, not compressed, the top row first
unfoldable pub kind_rules : List Rule
kind_rules =
    optional COMPRESSION is_short 1 (λ n. n == 1) Compressed
    ∷ required PHOTOMETRIC_INTERPRETATION is_short (λ n. n == 3) Photometric
    ∷ required BITS_PER_SAMPLE is_short (λ n. n == 4 || n == 8) Bits
    ∷ optional SAMPLES_PER_PIXEL is_short 1 (λ n. n == 1) Samples
    ∷ optional FILL_ORDER is_short 1 (λ n. n == 1) FillOrder
    ∷ optional ORIENTATION is_short 1 (λ n. n == 1) Orientation
    ∷ []

-- its size
unfoldable pub size_rules : List Rule
size_rules =
    required IMAGE_WIDTH is_whole (nat_lt 0) (λ n. BadField IMAGE_WIDTH)
    ∷ required IMAGE_LENGTH is_whole (nat_lt 0) (λ n. BadField IMAGE_LENGTH)
    ∷ (λ bytes. unless (nat_le (layout_of bytes).width MAX_COLUMNS && nat_le (layout_of bytes).height MAX_PICKS) TooLarge)
    ∷ []

-- its colour map and its strips
unfoldable pub content_rules : List Rule
content_rules =
    many COLOR_MAP is_short map_count (λ count found. ColorMapCount found)
    ∷ optional ROWS_PER_STRIP is_whole (2 ^ 32 - 1) (nat_lt 0) (λ n. BadField ROWS_PER_STRIP)
    ∷ one_per_strip STRIP_OFFSETS
    ∷ one_per_strip STRIP_BYTE_COUNTS
    ∷ (λ bytes. short_strips bytes (strip_count bytes))
    ∷ []

-- all faults of a file
unfoldable pub all_faults : Rule
all_faults = all_of (all_of head_rules ∷ all_of kind_rules ∷ all_of size_rules ∷ content_rules)

-- the fault that is told is the first
abbrev pub image_fault : List ℕ → Option TiffFault
image_fault bytes = slice_get (all_faults bytes) 0
