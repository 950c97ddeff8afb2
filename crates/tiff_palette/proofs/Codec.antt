-- What the fields of a file that was written say.
use Rattle.std.proofs.Common.{◌≡◌, ◌≤◌, ◌<◌, ◌^◌, ◌∙◌, sym, ap, refl, ℕ, zero, suc, ◌+◌, ◌*◌, ◌-◌, ◌/◌, nat_le, min, Bool, true, ◌&&◌, List, [], ◌++◌, length, slice_index, add-one, map, Some, arith}
use Rattle.std.specs.List.{range_with_len, flat_map}
use Rattle.byteorder.specs.Endian.{little_bytes}
use Rattle.std.proofs.Math.Nat.{mul-le-mul_right, add-mul, mul_comm, mod-lt, zero-mul}
use Rattle.std.proofs.lemmas.Nat.{div-add-mod'}
use Rattle.std.proofs.lemmas.Bool.{le-leb}
use Rattle.std.proofs.lemmas.List.FromFn.{get_or-map-range_with_len, length-map-range_with_len}
use Rattle.mill_base.specs.declared.limits.TheConstants.{MAX_COLOURS, MAX_PICKS}
use Rattle.tiff_palette.specs.declared.layout.Layout.{Layout}
use Rattle.tiff_palette.specs.declared.tags.TheConstants.{STRIP_OFFSETS, STRIP_BYTE_COUNTS}
use Rattle.tiff_palette.specs.declared.writing.TheConstants.{LISTS}
use Rattle.tiff_palette.specs.Directories.{field_of}
use Rattle.tiff_palette.specs.Fields.{value_of}
use Rattle.tiff_palette.specs.Layouts.{layout_of, strips_of, strip_bytes, row_bytes}
use Rattle.tiff_palette.specs.Rules.{is_held, short_strips}
use Rattle.tiff_palette.specs.Written.{counts_value, head_of, pixels_place, written_offset}
use Rattle.tiff_palette.specs.inner.Sizes.{IsCut}
use Rattle.tiff_palette.proofs.Coded.{file, file_offset, file_count, file_length, lists}
use Rattle.tiff_palette.proofs.Firsts.{no_strips, none_more}
use Rattle.tiff_palette.proofs.Heads.{head_width, head_height, head_bits, head_rows, head_offsets, head_counts, long_entry}
use Rattle.tiff_palette.proofs.Places.{strip_there, value_is}
use Rattle.tiff_palette.proofs.Pushes.{strips_few, strip_rows}

-- the parts of an image that is written
pub record IsDrawn (l : Layout) (colours pixels : List ℕ) : Type 0 where
  pub cut : IsCut l
  pub mapped : length colours ≡ 3 * MAX_COLOURS
  pub drawn : length pixels ≡ l.width * l.height

abbrev pub offsets : Layout → List ℕ
offsets l = map (written_offset l) (range_with_len 0 (strips_of l))

abbrev pub counts : Layout → List ℕ
counts l = map (strip_bytes l) (range_with_len 0 (strips_of l))

abbrev pub behind : Layout → List ℕ → List ℕ → List ℕ
behind l colours pixels = flat_map (little_bytes 2) colours ++ (lists (strips_of l) (offsets l) (counts l) ++ pixels)

abbrev pub whole : Layout → List ℕ → List ℕ → List ℕ
whole l colours pixels = file l (strips_of l) colours (offsets l) (counts l) pixels

pub offsets_length : (l : Layout) → length (offsets l) ≡ strips_of l
offsets_length l = length-map-range_with_len (written_offset l) 0 (strips_of l)

pub counts_length : (l : Layout) → length (counts l) ≡ strips_of l
counts_length l = length-map-range_with_len (strip_bytes l) 0 (strips_of l)

pub row_is : (l : Layout) → l.bits ≡ 8 → row_bytes l ≡ l.width
row_is l e = rw e refl

pub strips_near : (l : Layout) → IsCut l → strips_of l ≤ MAX_PICKS
strips_near l c = let e = strips_few l c.rows.0 in let tall = c.height.1 in omega (arith, e, tall)

-- one strip has all rows
one_strip : (l : Layout) → 1 ≤ l.rows_per_strip → 1 ≤ l.height → strips_of l ≡ 1 → l.height ≤ l.rows_per_strip
unfolding strips_of
one_strip l rows high one =
    let there = strip_there l.height l.rows_per_strip (l.height - 1) rows (omega arith) in
    let first : (l.height - 1) / l.rows_per_strip ≡ 0 = omega (arith, there, one) in
    let split = div-add-mod' (l.height - 1) l.rows_per_strip in
    let none : (l.height - 1) / l.rows_per_strip * l.rows_per_strip ≡ 0 * l.rows_per_strip = ap (λ (q : ℕ). q * l.rows_per_strip) first in
    let nothing = zero-mul l.rows_per_strip in
    let below = mod-lt (l.height - 1) rows in
    omega (arith, split, none, nothing, below)

-- the rows of a strip end within the image
strip_end : (l : Layout) (k : ℕ) → IsCut l → k < strips_of l → k * l.rows_per_strip * l.width + strip_bytes l k ≤ l.width * l.height
unfolding strip_bytes
strip_end l k c below =
    let rows = min l.rows_per_strip (l.height - k * l.rows_per_strip) in
    let a = strip_rows l (strips_of l) k refl c.rows.0 below in
    let b : (k * l.rows_per_strip + min l.rows_per_strip (l.height - k * l.rows_per_strip)) * l.width ≤ l.height * l.width = mul-le-mul_right l.width (omega (arith, a)) in
    let d = add-mul (k * l.rows_per_strip) (min l.rows_per_strip (l.height - k * l.rows_per_strip)) l.width in
    let e = mul_comm l.height l.width in
    let f : min l.rows_per_strip (l.height - k * l.rows_per_strip) * row_bytes l ≡ min l.rows_per_strip (l.height - k * l.rows_per_strip) * l.width = ap (λ (m : ℕ). rows * m) (row_is l c.bits) in
    omega (arith, b, d, e, f)

strip_before : (l : Layout) (k : ℕ) → IsCut l → k < strips_of l → written_offset l k + strip_bytes l k ≤ pixels_place (strips_of l) + l.width * l.height
unfolding written_offset
strip_before l k c below = let e = strip_end l k c below in omega (arith, e)

pixels_near : (l : Layout) → IsCut l → pixels_place (strips_of l) ≤ 100000
pixels_near l c = let e = strips_near l c in grind (arith, e)

listed : (f : ℕ → ℕ) (n k : ℕ) → k < n → slice_index (map f (range_with_len 0 n)) k ≡ f k
listed f n k below = get_or-map-range_with_len f 0 n k k 0 below (omega arith)

one_offset : (l : Layout) → strips_of l ≡ 1 → slice_index (offsets l) 0 ≡ LISTS
unfolding written_offset
one_offset l one =
    let item = listed (written_offset l) (strips_of l) 0 (omega (arith, one)) in
    let place : pixels_place (strips_of l) ≡ LISTS = ap pixels_place one in
    let a = zero-mul l.rows_per_strip in
    let b : 0 * l.rows_per_strip * l.width ≡ 0 * l.width = ap (λ (m : ℕ). m * l.width) a in
    let c = zero-mul l.width in
    omega (arith, item, place, b, c)

-- the entries of the two lists
pub offsets_entry : (l : Layout) (rest : List ℕ) → IsCut l → field_of (head_of l (strips_of l) ++ rest) STRIP_OFFSETS ≡ Some (long_entry STRIP_OFFSETS 70 (strips_of l) LISTS)
offsets_entry l rest c = let near = strips_near l c in head_offsets l (strips_of l) rest (omega (arith, near))

counts_fit : (l : Layout) → IsCut l → counts_value (strips_of l) (l.width * l.height) < 256 ^ 4
counts_fit l c = let near = strips_near l c in let size = c.cells in grind (arith, near, size)

pub counts_entry : (l : Layout) (rest : List ℕ) → IsCut l
    → field_of (head_of l (strips_of l) ++ rest) STRIP_BYTE_COUNTS ≡ Some (long_entry STRIP_BYTE_COUNTS 94 (strips_of l) (counts_value (strips_of l) (l.width * l.height)))
counts_entry l rest c = let near = strips_near l c in head_counts l (strips_of l) rest (omega (arith, near)) (counts_fit l c)

-- where a strip begins
pub offset_in : (l : Layout) (colours pixels : List ℕ) (k : ℕ) → IsDrawn l colours pixels → k < strips_of l → value_of STRIP_OFFSETS k (whole l colours pixels) ≡ written_offset l k
offset_in l colours pixels k d below =
    let before = strip_before l k d.cut below in
    let near = pixels_near l d.cut in
    let size = d.cut.cells in
    let item = listed (written_offset l) (strips_of l) k below in
    value_is (whole l colours pixels) STRIP_OFFSETS k (long_entry STRIP_OFFSETS 70 (strips_of l) LISTS) (offsets_entry l (behind l colours pixels) d.cut)
    ∙ file_offset l (strips_of l) colours (offsets l) (counts l) pixels k d.mapped (offsets_length l) below (omega (arith, item, before, near, size)) (one_offset l) ∙ item

one_count : (l : Layout) → IsCut l → strips_of l ≡ 1 → slice_index (counts l) 0 ≡ l.width * l.height
unfolding strip_bytes
one_count l c one =
    let item = listed (strip_bytes l) (strips_of l) 0 (omega (arith, one)) in
    let rows = one_strip l c.rows.0 c.height.0 one in
    let a = zero-mul l.rows_per_strip in
    let b : min l.rows_per_strip (l.height - 0 * l.rows_per_strip) ≡ l.height = omega (arith, a, rows) in
    item ∙ ap (λ (m : ℕ). m * row_bytes l) b ∙ ap (λ (m : ℕ). l.height * m) (row_is l c.bits) ∙ mul_comm l.height l.width

-- how many bytes it has
count_in : (l : Layout) (colours pixels : List ℕ) (k : ℕ) → IsDrawn l colours pixels → k < strips_of l → value_of STRIP_BYTE_COUNTS k (whole l colours pixels) ≡ strip_bytes l k
count_in l colours pixels k d below =
    let size = d.cut.cells in
    let end = strip_end l k d.cut below in
    let item = listed (strip_bytes l) (strips_of l) k below in
    value_is (whole l colours pixels) STRIP_BYTE_COUNTS k (long_entry STRIP_BYTE_COUNTS 94 (strips_of l) (counts_value (strips_of l) (l.width * l.height))) (counts_entry l (behind l colours pixels) d.cut)
    ∙ file_count l (strips_of l) colours (offsets l) (counts l) pixels k d.mapped (offsets_length l) (counts_length l) below (omega (arith, item, end, size)) (omega (arith, size)) (one_count l d.cut)
    ∙ item

layout_with : ℕ → ℕ → ℕ → ℕ → Layout
layout_with w h b r = record { width = w; height = h; bits = b; rows_per_strip = r }

same_layout : (a b : Layout) → a.width ≡ b.width → a.height ≡ b.height → a.bits ≡ b.bits → a.rows_per_strip ≡ b.rows_per_strip → a ≡ b
unfolding layout_with
same_layout a b w h p r =
    ap (λ (x : ℕ). layout_with x a.height a.bits a.rows_per_strip) w ∙ ap (λ (x : ℕ). layout_with b.width x a.bits a.rows_per_strip) h
    ∙ ap (λ (x : ℕ). layout_with b.width b.height x a.rows_per_strip) p ∙ ap (λ (x : ℕ). layout_with b.width b.height b.bits x) r

pub layout_in : (l : Layout) (rest : List ℕ) → IsCut l → layout_of (head_of l (strips_of l) ++ rest) ≡ l
unfolding layout_of
layout_in l rest c =
    let n = strips_of l in
    let wide = c.width.1 in
    let tall = c.height.1 in
    let few = c.rows.1 in
    same_layout (layout_of (head_of l n ++ rest)) l (head_width l n rest (omega (arith, wide))) (head_height l n rest (omega (arith, tall))) (head_bits l n rest ∙ sym c.bits)
    (head_rows l n rest (omega (arith, few)))

-- the file has all its pixels
pub whole_length : (l : Layout) (colours pixels : List ℕ) → IsDrawn l colours pixels → length (whole l colours pixels) ≡ pixels_place (strips_of l) + l.width * l.height
whole_length l colours pixels d =
    file_length l (strips_of l) colours (offsets l) (counts l) pixels d.mapped (offsets_length l) (counts_length l) ∙ ap (λ (m : ℕ). pixels_place (strips_of l) + m) d.drawn

-- no strip has a fault
strip_right : (bytes : List ℕ) (l : Layout) (k o : ℕ) → layout_of bytes ≡ l → value_of STRIP_OFFSETS k bytes ≡ o → value_of STRIP_BYTE_COUNTS k bytes ≡ strip_bytes l k → o + strip_bytes l k ≤ length bytes
    → is_held bytes k ≡ true
unfolding is_held
strip_right bytes l k o laid offset count fits =
    let a : nat_le (strip_bytes (layout_of bytes) k) (value_of STRIP_BYTE_COUNTS k bytes) ≡ true = rw (laid, count) (le-leb (strip_bytes l k) (strip_bytes l k) (omega arith)) in
    let b : nat_le (value_of STRIP_OFFSETS k bytes + strip_bytes (layout_of bytes) k) (length bytes) ≡ true = rw (laid, offset) (le-leb (o + strip_bytes l k) (length bytes) fits) in
    ap (λ (x : Bool). x && nat_le (value_of STRIP_OFFSETS k bytes + strip_bytes (layout_of bytes) k) (length bytes)) a ∙ b

strips_right_below : (l : Layout) (colours pixels : List ℕ) (m : ℕ) → IsDrawn l colours pixels → m ≤ strips_of l → short_strips (whole l colours pixels) m ≡ []
strips_right_below l colours pixels zero d le = no_strips (whole l colours pixels)
strips_right_below l colours pixels (suc m) d le =
    let bytes = whole l colours pixels in
    ap (short_strips bytes) (sym (add-one m))
    ∙ none_more bytes m (strips_right_below l colours pixels m d (omega arith))
    (strip_right bytes l m (written_offset l m) (layout_in l (behind l colours pixels) d.cut) (offset_in l colours pixels m d (omega arith)) (count_in l colours pixels m d (omega arith))
    (let a = strip_before l m d.cut (omega arith) in let b = whole_length l colours pixels d in omega (arith, a, b)))

pub strips_right : (l : Layout) (colours pixels : List ℕ) → IsDrawn l colours pixels → short_strips (whole l colours pixels) (strips_of l) ≡ []
strips_right l colours pixels d = strips_right_below l colours pixels (strips_of l) d (omega arith)
