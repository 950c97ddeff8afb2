-- Rows of pixels, one after another.
use Rattle.std.proofs.Common.{◌≡◌, ◌≤◌, ◌<◌, ◌∙◌, sym, ap, ℕ, ◌+◌, ◌*◌, ◌-◌, ◌/◌, ◌==◌, Bool, true, false, if◌then◌else◌, List, [], ◌++◌, length, length-append, length-drop, drop, take, get_or, slice_index, ⊎_elim, arith}
use Rattle.std.proofs.lemmas.Bool.{cases_lt}
use Rattle.std.proofs.lemmas.List.{length-take-le, get_or-take, get_or-drop, get_or_append_left, get_or-append_right}
use Rattle.std.proofs.lemmas.List.FromFn.{length-map-range_with_len, get_or-map-range_with_len, fill_by_all}
use Rattle.std.proofs.lemmas.Nat.{mul-add-lt}
use Rattle.std.proofs.Math.Nat.{add-mul, zero-mul}
use Rattle.tiff_palette.specs.declared.layout.Layout.{Layout}
use Rattle.tiff_palette.specs.Layouts.{row_bytes}
use Rattle.tiff_palette.specs.Pixels.{nibble, pixel_at, row_place}
use Rattle.tiff_palette.specs.inner.Drawings.{HasRows, row_at}

pub length-row_at : (l : Layout) (bytes : List ℕ) (place : ℕ) → length (row_at l bytes place) ≡ l.width
unfolding row_at
length-row_at l bytes place = length-map-range_with_len (pixel_at l bytes place) 0 l.width

-- a row of bytes
row_of_some : (l : Layout) (bytes : List ℕ) (place n : ℕ) → (l.bits == 8) ≡ true → n ≡ l.width → place + n ≤ length bytes → take n (drop place bytes) ≡ row_at l bytes place
unfolding row_at pixel_at
row_of_some l bytes place n eight wide there =
    let behind = length-drop place bytes in
    fill_by_all (pixel_at l bytes place) (take n (drop place bytes)) l.width 0 (length-take-le n (drop place bytes) (omega (arith, behind, there)) ∙ wide)
    (λ x within.
    get_or-take n (drop place bytes) x 0 (omega (arith, within, wide)) ∙ get_or-drop place bytes x 0
    ∙ sym (ap (λ (b : Bool). if b then slice_index bytes (place + x) else nibble (slice_index bytes (place + x / 2)) x) eight))

pub row_of_bytes : (l : Layout) (bytes : List ℕ) (place n : ℕ) → (l.bits == 8) ≡ true → n ≡ row_bytes l → place + row_bytes l ≤ length bytes → take (place + n - place) (drop place bytes) ≡ row_at l bytes place
row_of_bytes l bytes place n eight long there =
    row_of_some l bytes place (place + n - place) eight
    (let e : place + n - place ≡ row_bytes l = omega (arith, long) in e ∙ ap (λ (b : Bool). if b then l.width else (l.width + 1) / 2) eight) (omega (arith, there, long))

-- a row of half bytes
pub row_of_nibbles : (l : Layout) (bytes out : List ℕ) (place n m : ℕ) → (l.bits == 8) ≡ false → n ≡ row_bytes l → length out ≡ m → m ≡ l.width
    → ((x : ℕ) → x < m → slice_index out x ≡ nibble (slice_index (take (place + n - place) (drop place bytes)) (x / 2)) x) → out ≡ row_at l bytes place
unfolding row_at pixel_at
row_of_nibbles l bytes out place n m four long whole wide each =
    let bytes_of_row : row_bytes l ≡ (l.width + 1) / 2 = ap (λ (b : Bool). if b then l.width else (l.width + 1) / 2) four in
    fill_by_all (pixel_at l bytes place) out l.width 0 (whole ∙ wide)
    (λ x within.
    each x (omega (arith, within, wide))
    ∙ ap (λ (byte : ℕ). nibble byte x) (get_or-take (place + n - place) (drop place bytes) (x / 2) 0 (omega (arith, within, long, bytes_of_row)) ∙ get_or-drop place bytes (x / 2) 0)
    ∙ sym (ap (λ (b : Bool). if b then slice_index bytes (place + x) else nibble (slice_index bytes (place + x / 2)) x) four))

pub no_rows : (l : Layout) (bytes : List ℕ) → HasRows l bytes 0 []
no_rows l bytes = record { long = sym (zero-mul l.width); each = λ x y within below. absurd (omega arith) }

-- one more row
pub row_more : (l : Layout) (bytes pixels : List ℕ) (n place : ℕ) → HasRows l bytes n pixels → place ≡ row_place l bytes n → HasRows l bytes (n + 1) (pixels ++ row_at l bytes place)
unfolding row_at
row_more l bytes pixels n place rows e =
    let row = row_at l bytes place in
    let long = rows.long in
    record {
      long =
          let a = length-append pixels row in
          let b = length-row_at l bytes place in
          let c = add-mul n 1 l.width in
          omega (arith, a, b, c, long);
      each = λ x y within below. ⊎_elim
          (λ (above : y < n).
          get_or_append_left pixels row 0 (y * l.width + x) (let h = mul-add-lt y l.width x n above within in omega (arith, h, long)) ∙ rows.each x y within above)
          (λ (last : n ≤ y).
          let same : y ≡ n = omega (arith, last, below) in
          get_or-append_right pixels row (n * l.width) (y * l.width + x) 0 long (let h = ap (λ (m : ℕ). m * l.width) same in omega (arith, h))
          ∙ ap (λ (k : ℕ). get_or row k 0) (let h = ap (λ (m : ℕ). m * l.width) same in let k : y * l.width + x - n * l.width ≡ x = omega (arith, h) in k)
          ∙ get_or-map-range_with_len (pixel_at l bytes place) 0 l.width x x 0 within (omega arith)
          ∙ ap (λ (p : ℕ). pixel_at l bytes p x) (e ∙ ap (row_place l bytes) (sym same)))
          (cases_lt y n);
    }
