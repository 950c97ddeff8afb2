-- The fields of a file that was written, and the rules that they alone decide. The head of a file is written out byte
-- by byte, whatever the numbers in it are, so the words of reading compute over it.
use Rattle.std.proofs.Common.{◌≡◌, ◌≤◌, ◌<◌, ◌^◌, if◌then◌else◌, Bool, true, ◌∙◌, ap, refl, ℕ, ◌+◌, ◌-◌, ◌*◌, List, [], ◌∷◌, ◌++◌, length, length-append, ◌&&◌, drop, Some, arith, nat_lt, nat_le}
use Rattle.byteorder.specs.Endian.{little_bytes, little_number}
use Rattle.byteorder.specs.Numbers.{little_number-reads_back}
use Rattle.std.proofs.lemmas.Bool.{le-leb, lt-ltb, lt-leb}
use Rattle.mill_base.specs.declared.limits.TheConstants.{MAX_COLUMNS, MAX_PICKS, MAX_COLOURS}
use Rattle.tiff_palette.specs.declared.entry.Entry.{Entry}
use Rattle.tiff_palette.specs.declared.entry.TheConstants.{SHORT, LONG}
use Rattle.tiff_palette.specs.declared.fault.TiffFault.{TiffFault}
use Rattle.tiff_palette.specs.declared.fault.TiffFault.TheVariants.{Truncated, BadField, TooLarge, ColorMapCount}
use Rattle.tiff_palette.specs.declared.layout.Layout.{Layout}
use Rattle.tiff_palette.specs.declared.numbers.Order.TheVariants.{Little}
use Rattle.tiff_palette.specs.declared.tags.TheConstants.{IMAGE_WIDTH, IMAGE_LENGTH, BITS_PER_SAMPLE, STRIP_OFFSETS, ROWS_PER_STRIP, STRIP_BYTE_COUNTS, COLOR_MAP}
use Rattle.tiff_palette.specs.declared.writing.TheConstants.{COLOURS, LISTS}
use Rattle.tiff_palette.specs.Numbers.{number_at, order_of}
use Rattle.tiff_palette.specs.Directories.{field_of, first_entries, entry_at}
use Rattle.tiff_palette.specs.Fields.{is_short, is_whole, value_or, value_at}
use Rattle.tiff_palette.specs.Layouts.{layout_of}
use Rattle.tiff_palette.specs.Rules.{all_of, unless, kind_rules, head_rules, size_rules, one_value, required, optional, many, map_count}
use Rattle.tiff_palette.specs.Written.{head_of, counts_value}

pub head_order : (l : Layout) (n : ℕ) (rest : List ℕ) → order_of (head_of l n ++ rest) ≡ Little
unfolding order_of head_of
head_order l n rest = refl

pub head_kind : (l : Layout) (n : ℕ) (rest : List ℕ) → all_of kind_rules (head_of l n ++ rest) ≡ []
unfolding order_of head_of field_of first_entries entry_at number_at kind_rules required optional one_value value_or value_at
head_kind l n rest = refl

pub head_width : (l : Layout) (n : ℕ) (rest : List ℕ) → l.width < 256 ^ 4 → value_or IMAGE_WIDTH 0 (head_of l n ++ rest) ≡ l.width
unfolding order_of head_of field_of first_entries entry_at number_at value_or value_at
head_width l n rest fits = little_number-reads_back 4 l.width (drop 22 (head_of l n ++ rest)) fits

pub head_height : (l : Layout) (n : ℕ) (rest : List ℕ) → l.height < 256 ^ 4 → value_or IMAGE_LENGTH 0 (head_of l n ++ rest) ≡ l.height
unfolding order_of head_of field_of first_entries entry_at number_at value_or value_at
head_height l n rest fits = little_number-reads_back 4 l.height (drop 34 (head_of l n ++ rest)) fits

pub head_bits : (l : Layout) (n : ℕ) (rest : List ℕ) → value_or BITS_PER_SAMPLE 0 (head_of l n ++ rest) ≡ 8
unfolding order_of head_of field_of first_entries entry_at number_at value_or value_at
head_bits l n rest = refl

pub head_rows : (l : Layout) (n : ℕ) (rest : List ℕ) → l.rows_per_strip < 256 ^ 4 → value_or ROWS_PER_STRIP (2 ^ 32 - 1) (head_of l n ++ rest) ≡ l.rows_per_strip
unfolding order_of head_of field_of first_entries entry_at number_at value_or value_at
head_rows l n rest fits = little_number-reads_back 4 l.rows_per_strip (drop 94 (head_of l n ++ rest)) fits

abbrev pub map_entry : Entry
map_entry = record { tag = COLOR_MAP; kind = SHORT; count = 3 * MAX_COLOURS; values = COLOURS }

pub head_map : (l : Layout) (n : ℕ) (rest : List ℕ) → field_of (head_of l n ++ rest) COLOR_MAP ≡ Some map_entry
unfolding order_of head_of field_of first_entries entry_at number_at
head_map l n rest = refl

-- the entry of a list of LONGs, by its place, its count and what stands in its last four bytes
abbrev pub long_entry : ℕ → ℕ → ℕ → ℕ → Entry
long_entry tag place count value = record { tag = tag; kind = LONG; count = count; values = if nat_le (4 * count) 4 then place + 8 else value }

pub head_offsets : (l : Layout) (n : ℕ) (rest : List ℕ) → n < 256 ^ 4 → field_of (head_of l n ++ rest) STRIP_OFFSETS ≡ Some (long_entry STRIP_OFFSETS 70 n LISTS)
unfolding order_of head_of field_of first_entries entry_at number_at
head_offsets l n rest fits = ap (λ (count : ℕ). Some (long_entry STRIP_OFFSETS 70 count LISTS)) (little_number-reads_back 4 n (drop 78 (head_of l n ++ rest)) fits)

pub head_counts : (l : Layout) (n : ℕ) (rest : List ℕ) → n < 256 ^ 4 → counts_value n (l.width * l.height) < 256 ^ 4
    → field_of (head_of l n ++ rest) STRIP_BYTE_COUNTS ≡ Some (long_entry STRIP_BYTE_COUNTS 94 n (counts_value n (l.width * l.height)))
unfolding order_of head_of field_of first_entries entry_at number_at
head_counts l n rest fits near =
    ap (λ (count : ℕ). Some (long_entry STRIP_BYTE_COUNTS 94 count (little_number 4 (little_bytes 4 (counts_value n (l.width * l.height)) ++ drop 106 (head_of l n ++ rest)))))
    (little_number-reads_back 4 n (drop 102 (head_of l n ++ rest)) fits)
    ∙ ap (λ (value : ℕ). Some (long_entry STRIP_BYTE_COUNTS 94 n value)) (little_number-reads_back 4 (counts_value n (l.width * l.height)) (drop 106 (head_of l n ++ rest)) near)

pub head_length : (l : Layout) (n : ℕ) → length (head_of l n) ≡ COLOURS
unfolding head_of
head_length l n = refl

-- the rules
abbrev headed : ℕ → List TiffFault
headed n = unless (nat_le 8 n) Truncated ++ ([] ++ ([] ++ ([] ++ (unless (nat_le 10 n) Truncated ++ ([] ++ (unless (nat_le 154 n) Truncated ++ []))))))

headed_long : (n : ℕ) → 174 ≤ n → headed n ≡ []
headed_long n long = rw (le-leb 8 n (omega arith), le-leb 10 n (omega arith), le-leb 154 n (omega arith)) refl

long_enough : (l : Layout) (n : ℕ) (rest : List ℕ) → 174 ≤ length (head_of l n ++ rest)
long_enough l n rest = let e = length-append (head_of l n) rest in let f = head_length l n in omega (arith, e, f)

pub head_headed : (l : Layout) (n : ℕ) (rest : List ℕ) → all_of head_rules (head_of l n ++ rest) ≡ []
unfolding order_of head_of number_at head_rules
head_headed l n rest = headed_long (length (head_of l n ++ rest)) (long_enough l n rest)

abbrev sized : ℕ → ℕ → List TiffFault
sized w h =
    ([] ++ (unless (nat_lt 0 w) (BadField IMAGE_WIDTH) ++ []))
    ++ (([] ++ (unless (nat_lt 0 h) (BadField IMAGE_LENGTH) ++ [])) ++ (unless (nat_le w MAX_COLUMNS && nat_le h MAX_PICKS) TooLarge ++ []))

sized_right : (w h : ℕ) → 1 ≤ w → w ≤ MAX_COLUMNS → 1 ≤ h → h ≤ MAX_PICKS → sized w h ≡ []
sized_right w h a b c d = rw (lt-ltb 0 w a, lt-ltb 0 h c, le-leb w 4096 b, le-leb h 8192 d) refl

sized_wide : (w h : ℕ) → 1 ≤ h → MAX_COLUMNS < w → sized w h ≡ TooLarge ∷ []
sized_wide w h a b = rw (lt-ltb 0 w (omega arith), lt-ltb 0 h a, lt-leb w 4096 b) refl

head_size : (l : Layout) (n : ℕ) (rest : List ℕ) → l.width < 256 ^ 4 → l.height < 256 ^ 4 → all_of size_rules (head_of l n ++ rest) ≡ sized l.width l.height
unfolding order_of head_of field_of first_entries entry_at number_at size_rules required one_value layout_of
head_size l n rest wide tall =
    ap (λ (w : ℕ). sized w (value_or IMAGE_LENGTH 0 (head_of l n ++ rest))) (head_width l n rest wide) ∙ ap (λ (h : ℕ). sized l.width h) (head_height l n rest tall)

pub head_sized : (l : Layout) (n : ℕ) (rest : List ℕ) → 1 ≤ l.width → l.width ≤ MAX_COLUMNS → 1 ≤ l.height → l.height ≤ MAX_PICKS → all_of size_rules (head_of l n ++ rest) ≡ []
head_sized l n rest a b c d = head_size l n rest (omega (arith, b)) (omega (arith, d)) ∙ sized_right l.width l.height a b c d

pub head_too_wide : (l : Layout) (n : ℕ) (rest : List ℕ) → MAX_COLUMNS < l.width → l.width < 256 ^ 4 → 1 ≤ l.height → l.height < 256 ^ 4 → all_of size_rules (head_of l n ++ rest) ≡ TooLarge ∷ []
head_too_wide l n rest a b c d = head_size l n rest b d ∙ sized_wide l.width l.height c a

pub kept : (b : Bool) (f : TiffFault) → b ≡ true → unless b f ≡ []
kept b f e = rw e refl

pub head_mapped : (l : Layout) (n : ℕ) (rest : List ℕ) → LISTS ≤ length (head_of l n ++ rest) → many COLOR_MAP is_short map_count (λ count found. ColorMapCount found) (head_of l n ++ rest) ≡ []
unfolding order_of head_of field_of first_entries entry_at number_at many layout_of value_or value_at
head_mapped l n rest long = kept (nat_le 1710 (length (head_of l n ++ rest))) (BadField COLOR_MAP) (le-leb 1710 (length (head_of l n ++ rest)) long)

pub head_rowed : (l : Layout) (n : ℕ) (rest : List ℕ) → 1 ≤ l.rows_per_strip → l.rows_per_strip < 256 ^ 4
    → optional ROWS_PER_STRIP is_whole (2 ^ 32 - 1) (nat_lt 0) (λ n. BadField ROWS_PER_STRIP) (head_of l n ++ rest) ≡ []
unfolding order_of head_of field_of first_entries entry_at number_at optional one_value
head_rowed l n rest some fits =
    ap (λ (r : ℕ). [] ++ (unless (nat_lt 0 r) (BadField ROWS_PER_STRIP) ++ [])) (head_rows l n rest fits)
    ∙ ap (λ (b : Bool). [] ++ (unless b (BadField ROWS_PER_STRIP) ++ [])) (lt-ltb 0 l.rows_per_strip some)
