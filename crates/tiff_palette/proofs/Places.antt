-- Where rows lie.
use Rattle.std.proofs.Common.{◌≡◌, ◌≤◌, ◌<◌, ℕ, ◌+◌, ◌-◌, ◌*◌, ◌/◌, ◌%◌, min, List, [], length, Some, Bool, true, false, nat_le, ◌&&◌, sym, ap, subst, arith}
use Rattle.std.specs.Option.{option_map_or}
use Rattle.std.proofs.lemmas.Bool.{leb-true}
use Rattle.std.proofs.lemmas.Nat.{div-add-mod', le-div}
use Rattle.std.proofs.Math.Nat.{mod-lt, mul-le-mul_right, add-mul}
use Rattle.tiff_palette.specs.declared.entry.Entry.{Entry}
use Rattle.tiff_palette.specs.declared.layout.Layout.{Layout}
use Rattle.tiff_palette.specs.declared.tags.TheConstants.{STRIP_OFFSETS, STRIP_BYTE_COUNTS}
use Rattle.tiff_palette.specs.Directories.{field_of}
use Rattle.tiff_palette.specs.Fields.{value_at, value_of}
use Rattle.tiff_palette.specs.Layouts.{layout_of, row_bytes, strip_bytes, strips_of}
use Rattle.tiff_palette.specs.Pixels.{row_place}
use Rattle.tiff_palette.specs.Rules.{is_held, short_strips}
use Rattle.tiff_palette.proofs.Firsts.{held_of_none}

-- the values of a field are those of its entry
pub value_is : (bytes : List ℕ) (tag k : ℕ) (entry : Entry) → field_of bytes tag ≡ Some entry → value_of tag k bytes ≡ value_at bytes entry k
unfolding value_of
value_is bytes tag k entry e = ap (λ field. option_map_or (λ (entry : Entry). value_at bytes entry k) field 0) e

-- the strip of a row is one of the strips
pub strip_there : (h r y : ℕ) → 0 < r → y < h → y / r < (h + r - 1) / r
strip_there h r y some below =
    let split = div-add-mod' y r in
    let more : (y / r + 1) * r ≡ y / r * r + 1 * r = add-mul (y / r) 1 r in
    let least : (y / r + 1) * r ≤ h + r - 1 = omega (arith, split, more) in
    let e : y / r + 1 ≤ (h + r - 1) / r = le-div (y / r + 1) (h + r - 1) r some least in
    omega (arith, e)

-- a row ends within the rows of its strip
row_within : (h r y b : ℕ) → 0 < r → y < h → y % r * b + b ≤ min r (h - y / r * r) * b
row_within h r y b some below =
    let split = div-add-mod' y r in
    let rest = mod-lt y some in
    let more : (y % r + 1) * b ≡ y % r * b + 1 * b = add-mul (y % r) 1 b in
    let last : y % r + 1 ≤ min r (h - y / r * r) = omega (arith, split, rest) in
    let e : (y % r + 1) * b ≤ min r (h - y / r * r) * b = mul-le-mul_right b last in
    omega (arith, e, more)

both : (a b : Bool) → (a && b) ≡ true → b ≡ true
both true true e = e
both true false e = absurd (cc)
both false b e = absurd (cc)

-- the rows of a strip without a fault lie in the file
strip_held : (bytes : List ℕ) (k n : ℕ) → short_strips bytes n ≡ [] → k < n → value_of STRIP_OFFSETS k bytes + strip_bytes (layout_of bytes) k ≤ length bytes
unfolding is_held
strip_held bytes k n sound below =
    let need = strip_bytes (layout_of bytes) k in
    let place = value_of STRIP_OFFSETS k bytes in
    leb-true (place + need) (length bytes) (both (nat_le need (value_of STRIP_BYTE_COUNTS k bytes)) (nat_le (place + need) (length bytes)) (held_of_none bytes k n sound below))

abbrev RowHeld : List ℕ → ℕ → Layout → Type 0
RowHeld bytes y l = short_strips bytes (strips_of l) ≡ [] → 0 < l.rows_per_strip → y < l.height → row_place l bytes y + row_bytes l ≤ length bytes

row_held_as_laid : (bytes : List ℕ) (y : ℕ) → RowHeld bytes y (layout_of bytes)
unfolding strip_bytes strips_of row_place
row_held_as_laid bytes y sound some below =
    let l = layout_of bytes in
    let there = strip_there l.height l.rows_per_strip y some below in
    let within = row_within l.height l.rows_per_strip y (row_bytes l) some below in
    let h = strip_held bytes (y / l.rows_per_strip) (strips_of l) sound there in
    omega (arith, h, within)

-- every row lies in the file
pub row_held : (bytes : List ℕ) (l : Layout) (y : ℕ) → l ≡ layout_of bytes → short_strips bytes (strips_of l) ≡ [] → 0 < l.rows_per_strip → y < l.height
    → row_place l bytes y + row_bytes l ≤ length bytes
row_held bytes l y laid = subst (λ (m : Layout). RowHeld bytes y m) (sym laid) (row_held_as_laid bytes y)
