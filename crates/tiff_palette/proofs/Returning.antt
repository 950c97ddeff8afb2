-- The pixels and the colours of a file that was written, and the rules of its lists.
use Rattle.std.proofs.Common.{◌≡◌, ◌≤◌, ◌<◌, ◌^◌, ◌∙◌, sym, ap, refl, ℕ, ◌+◌, ◌*◌, ◌-◌, ◌/◌, ◌%◌, ◌==◌, nat_le, Bool, true, false, if◌then◌else◌, List, [], ◌∷◌, ◌++◌, length, slice_index, arith, Some, All}
use Rattle.std.specs.List.{flat_map}
use Rattle.std.specs.Option.{option_map_or}
use Rattle.byteorder.specs.Endian.{little_bytes}
use Rattle.std.proofs.Math.Nat.{add-mul}
use Rattle.std.proofs.lemmas.List.{get_or-append-add}
use Rattle.std.proofs.lemmas.Nat.{div-add-mod'}
use Rattle.std.proofs.lemmas.Bool.{le-leb, lt-ltb, eq-eqb, eqb-true, eqb-false}
use Rattle.mill_base.specs.declared.limits.TheConstants.{MAX_COLOURS}
use Rattle.tiff_palette.specs.declared.entry.Entry.{Entry}
use Rattle.tiff_palette.specs.declared.entry.TheConstants.{LONG}
use Rattle.tiff_palette.specs.declared.fault.TiffFault.TheVariants.{Missing, StripCount}
use Rattle.tiff_palette.specs.declared.layout.Layout.{Layout}
use Rattle.tiff_palette.specs.declared.tags.TheConstants.{STRIP_OFFSETS, STRIP_BYTE_COUNTS, COLOR_MAP}
use Rattle.tiff_palette.specs.declared.writing.TheConstants.{LISTS}
use Rattle.tiff_palette.specs.Directories.{field_of}
use Rattle.tiff_palette.specs.Fields.{is_whole, value_of}
use Rattle.tiff_palette.specs.Layouts.{layout_of, strips_of, row_bytes}
use Rattle.tiff_palette.specs.Pixels.{nibble, pixel_at, pixel_of, row_place, shade_of}
use Rattle.tiff_palette.specs.Rules.{many, many_values, one_per_strip, strip_count}
use Rattle.tiff_palette.specs.Written.{counts_value, head_of, pixels_place, written_offset}
use Rattle.tiff_palette.proofs.Codec.{IsDrawn, behind, whole, offset_in, offsets, counts, offsets_length, counts_length, row_is, whole_length, layout_in, offsets_entry, counts_entry}
use Rattle.tiff_palette.proofs.Coded.{file_front, front_length, file_colour, lists}
use Rattle.tiff_palette.proofs.Heads.{head_map, long_entry, map_entry}
use Rattle.tiff_palette.proofs.Places.{strip_there, value_is}

-- a list of LONGs that is as long as there are strips, and lies in the file
strip_listed : (bytes : List ℕ) (tag : ℕ) (entry : Entry) → field_of bytes tag ≡ Some entry → entry.kind ≡ LONG → entry.count ≡ strips_of (layout_of bytes) → entry.values + 4 * entry.count ≤ length bytes
    → one_per_strip tag bytes ≡ []
unfolding one_per_strip many
strip_listed bytes tag entry e long counted fits =
    ap (λ field. option_map_or (many_values tag is_whole (strip_count bytes) (StripCount tag) (length bytes)) field (Missing tag ∷ [])) e
    ∙ rw (long, eq-eqb entry.count (strips_of (layout_of bytes)) counted, le-leb (entry.values + 4 * entry.count) (length bytes) fits) refl

some_strip : (l : Layout) → 1 ≤ l.rows_per_strip → 1 ≤ l.height → 0 < strips_of l
unfolding strips_of
some_strip l rows high =
    let e = strip_there l.height l.rows_per_strip (l.height - 1) rows (omega (arith, high)) in omega (arith, e)

-- the list lies in the entry where there is one strip, else before the pixels
list_place : (n place value : ℕ) → place ≤ 1000 → value ≤ LISTS + 4 * n → (if nat_le (4 * n) 4 then place + 8 else value) + 4 * n ≤ LISTS + 8 * n
list_place n place value e f = grind (arith, e, f)

one_place : (n place value : ℕ) → place ≤ 1000 → n ≡ 1 → (if nat_le (4 * n) 4 then place + 8 else value) + 4 * n ≤ LISTS
one_place n place value e f = rw f (omega (arith, e))

place_within : (b : Bool) (n place value : ℕ) → (n == 1) ≡ b → 0 < n → place ≤ 1000 → (1 < n → value ≤ LISTS + 4 * n) → (if nat_le (4 * n) 4 then place + 8 else value) + 4 * n ≤ pixels_place n
place_within true n place value e some small near = rw e (one_place n place value small (eqb-true n 1 e))
place_within false n place value e some small near =
    let several : 1 < n = (let h = eqb-false n 1 e in omega (arith, h, some)) in
    rw e (list_place n place value small (near several))

counts_far : (n bytes : ℕ) → 1 < n → counts_value n bytes ≤ LISTS + 4 * n
counts_far n bytes several = grind (arith, several)

pub offsets_right : (l : Layout) (colours pixels : List ℕ) → IsDrawn l colours pixels → one_per_strip STRIP_OFFSETS (whole l colours pixels) ≡ []
offsets_right l colours pixels d =
    let n = strips_of l in
    let long = whole_length l colours pixels d in
    let inside = place_within (n == 1) n 70 LISTS refl (some_strip l d.cut.rows.0 d.cut.height.0) (omega arith) (λ _. omega arith) in
    strip_listed (whole l colours pixels) STRIP_OFFSETS (long_entry STRIP_OFFSETS 70 n LISTS) (offsets_entry l (behind l colours pixels) d.cut) refl
    (sym (ap strips_of (layout_in l (behind l colours pixels) d.cut))) (omega (arith, long, inside))

pub counts_right : (l : Layout) (colours pixels : List ℕ) → IsDrawn l colours pixels → one_per_strip STRIP_BYTE_COUNTS (whole l colours pixels) ≡ []
counts_right l colours pixels d =
    let n = strips_of l in
    let long = whole_length l colours pixels d in
    let inside = place_within (n == 1) n 94 (counts_value n (l.width * l.height)) refl (some_strip l d.cut.rows.0 d.cut.height.0) (omega arith) (counts_far n (l.width * l.height)) in
    strip_listed (whole l colours pixels) STRIP_BYTE_COUNTS (long_entry STRIP_BYTE_COUNTS 94 n (counts_value n (l.width * l.height))) (counts_entry l (behind l colours pixels) d.cut) refl
    (sym (ap strips_of (layout_in l (behind l colours pixels) d.cut))) (omega (arith, long, inside))

strip_of_row : (l : Layout) (y : ℕ) → 1 ≤ l.rows_per_strip → y < l.height → y / l.rows_per_strip < strips_of l
unfolding strips_of
strip_of_row l y some below = strip_there l.height l.rows_per_strip y some below

place_sum : (b q r w y p : ℕ) → q * r + p ≡ y → b + q * r * w + p * w ≡ b + y * w
place_sum b q r w y p e =
    let f = add-mul (q * r) p w in
    let h : (q * r + p) * w ≡ y * w = ap (λ (m : ℕ). m * w) e in
    omega (arith, f, h)

-- row y stands behind the rows above it
place_right : (l : Layout) (colours pixels : List ℕ) (y : ℕ) → IsDrawn l colours pixels → y < l.height → row_place l (whole l colours pixels) y ≡ pixels_place (strips_of l) + y * l.width
unfolding row_place written_offset
place_right l colours pixels y d below =
    let r = l.rows_per_strip in
    ap (λ (m : ℕ). m + y % r * row_bytes l) (offset_in l colours pixels (y / r) d (strip_of_row l y d.cut.rows.0 below))
    ∙ ap (λ (m : ℕ). pixels_place (strips_of l) + y / r * r * l.width + y % r * m) (row_is l d.cut.bits)
    ∙ place_sum (pixels_place (strips_of l)) (y / r) r l.width y (y % r) (div-add-mod' y r)

-- each pixel stands at its place
pub pixels_right : (l : Layout) (colours pixels : List ℕ) (x y : ℕ) → IsDrawn l colours pixels → y < l.height → slice_index pixels (y * l.width + x) ≡ pixel_of l (whole l colours pixels) x y
unfolding pixel_at
pixels_right l colours pixels x y d below =
    let n = strips_of l in
    let bytes = whole l colours pixels in
    let front = head_of l n ++ (flat_map (little_bytes 2) colours ++ lists n (offsets l) (counts l)) in
    let long = front_length l n colours (offsets l) (counts l) d.mapped (offsets_length l) (counts_length l) in
    let place = place_right l colours pixels y d below in
    let there : row_place l bytes y + x ≡ length front + (y * l.width + x) = omega (arith, place, long) in
    sym (ap (λ (b : ℕ). if b == 8 then slice_index bytes (row_place l bytes y + x) else nibble (slice_index bytes (row_place l bytes y + x / 2)) x) d.cut.bits
    ∙ ap (slice_index bytes) there ∙ ap (λ (file : List ℕ). slice_index file (length front + (y * l.width + x))) (file_front l n colours (offsets l) (counts l) pixels)
    ∙ get_or-append-add front pixels (y * l.width + x) 0)

-- each number of the map stands at its place
pub colours_right : (l : Layout) (colours pixels : List ℕ) (part k : ℕ) → IsDrawn l colours pixels → All (λ c. c < 2 ^ 16) colours → part < 3 → k < MAX_COLOURS
    → slice_index colours (part * MAX_COLOURS + k) ≡ shade_of 8 (whole l colours pixels) part k
unfolding shade_of
colours_right l colours pixels part k d fits first below =
    let n = strips_of l in
    let bytes = whole l colours pixels in
    let mapped = d.mapped in
    let there : part * MAX_COLOURS + k < length colours = omega (arith, mapped, first, below) in
    sym (ap (λ (b : Bool). if b then value_of COLOR_MAP (part * MAX_COLOURS + k) bytes else 0) (lt-ltb k MAX_COLOURS below)
    ∙ value_is bytes COLOR_MAP (part * MAX_COLOURS + k) map_entry (head_map l n (behind l colours pixels))
    ∙ file_colour l n colours (lists n (offsets l) (counts l) ++ pixels) (part * MAX_COLOURS + k) there (fits (part * MAX_COLOURS + k) 0 there))
