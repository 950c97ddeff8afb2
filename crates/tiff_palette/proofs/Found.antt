-- The image of a file whose parts are known.
use Rattle.std.proofs.Common.{◌≡◌, ◌≤◌, ◌<◌, ◌∙◌, sym, ap, subst, refl, ℕ, zero, suc, ◌+◌, ◌*◌, ◌/◌, ◌%◌, List, [], ◌∷◌, length, map, slice_index, None, slice_get, arith}
use Rattle.std.proofs.Math.Nat.{mul_comm, mul-le-mul, mod-lt, zero-mul, div-lt_iff_lt-mul, mul-add-mod_self_right, mod-eq_of_lt}
use Rattle.std.proofs.lemmas.List.FromFn.{length-map-range_with_len, get_or-map-range_with_len}
use Rattle.std.specs.List.{range_with_len}
use Rattle.std.proofs.lemmas.Nat.{div-add-mod', div-mul-add, mul-add-lt}
use Rattle.mill_base.specs.Limits.{IsWithin}
use Rattle.std.proofs.lemmas.Grind.{same_number_lists}
use Rattle.mill_base.specs.declared.limits.TheConstants.{MAX_COLUMNS, MAX_PICKS, MAX_COLOURS}
use Rattle.tiff_palette.specs.declared.fault.TiffFault.{TiffFault}
use Rattle.tiff_palette.specs.declared.image.PaletteImage.{PaletteImage}
use Rattle.tiff_palette.specs.declared.layout.Layout.{Layout}
use Rattle.tiff_palette.specs.Images.{Image}
use Rattle.tiff_palette.specs.Layouts.{layout_of}
use Rattle.tiff_palette.specs.Pixels.{pixel_of, shade_of}
use Rattle.tiff_palette.specs.Rules.{all_faults, image_fault}
use Rattle.tiff_palette.specs.Written.{IsWritable}
use Rattle.tiff_palette.specs.inner.Drawings.{HasRows}

abbrev pub image_with : ℕ → ℕ → List ℕ → List ℕ → PaletteImage
image_with width height pixels colour_map = record { width = width; height = height; pixels = pixels; colour_map = colour_map }

-- the colours of a file's map
abbrev pub HasMap : Layout → List ℕ → List ℕ → Type 0
HasMap l bytes colours = (part k : ℕ) → part < 3 → k < MAX_COLOURS → slice_index colours (part * MAX_COLOURS + k) ≡ shade_of l.bits bytes part k

abbrev IsReadAs : List ℕ → Layout → List ℕ → List ℕ → List ℕ → Type 0
IsReadAs bytes l file pixels colours =
    HasRows l file l.height pixels → length colours ≡ 3 * MAX_COLOURS → HasMap l file colours → Image bytes (image_with l.width l.height pixels colours)

image_as_laid : (bytes pixels colours : List ℕ) → all_faults bytes ≡ [] → IsReadAs bytes (layout_of bytes) bytes pixels colours
image_as_laid bytes pixels colours sound rows long coloured = record {
  sound = ap (λ faults. slice_get faults 0) sound;
  width = refl;
  height = refl;
  drawn = rows.long ∙ mul_comm (layout_of bytes).height (layout_of bytes).width;
  pixels = rows.each;
  mapped = long;
  colours = coloured;
}

pub image_found : (bytes file pixels colours : List ℕ) (l : Layout) → file ≡ bytes → l ≡ layout_of file → all_faults bytes ≡ [] → IsReadAs bytes l file pixels colours
image_found bytes file pixels colours l same laid sound =
    subst (λ (m : Layout). IsReadAs bytes m file pixels colours) (sym laid)
    (subst (λ (f : List ℕ). IsReadAs bytes (layout_of f) f pixels colours) (sym same) (image_as_laid bytes pixels colours sound))

-- it can be written
pub writable_found : (bytes pixels colours : List ℕ) (l : Layout) → IsWithin 1 l.width MAX_COLUMNS → IsWithin 1 l.height MAX_PICKS → HasRows l bytes l.height pixels → length colours ≡ 3 * MAX_COLOURS
    → IsWritable (image_with l.width l.height pixels colours)
writable_found bytes pixels colours l wide tall rows long =
    let area : l.width * l.height ≤ 33554432 = mul-le-mul wide.1 tall.1 in
    record {
      width = (wide.0, omega (arith, wide.1));
      height = tall;
      cells = omega (arith, area);
      drawn = rows.long ∙ mul_comm l.height l.width;
      mapped = long;
    }

same_image : (a b : PaletteImage) → a.width ≡ b.width → a.height ≡ b.height → a.pixels ≡ b.pixels → a.colour_map ≡ b.colour_map → a ≡ b
same_image a b w h p m =
    ap (λ (x : ℕ). image_with x a.height a.pixels a.colour_map) w ∙ ap (λ (x : ℕ). image_with b.width x a.pixels a.colour_map) h
    ∙ ap (λ (x : List ℕ). image_with b.width b.height x a.colour_map) p ∙ ap (λ (x : List ℕ). image_with b.width b.height b.pixels x) m

-- a place of a list of rows is one of a column and a row
in_rows : (w h i : ℕ) → i < w * h → (i % w < w) × (i / w < h)
in_rows zero h i below = absurd (let none = zero-mul h in omega (arith, below, none))
in_rows (suc w) h i below = (mod-lt i (omega arith), (div-lt_iff_lt-mul {k = suc w} {x = i} {y = h} (omega arith)).1 (let turned = mul_comm (suc w) h in omega (arith, below, turned)))

-- two lists that agree at each place of each row
same_by_rows : (w h : ℕ) (xs ys : List ℕ) → length xs ≡ w * h → length ys ≡ w * h → ((x y : ℕ) → x < w → y < h → slice_index xs (y * w + x) ≡ slice_index ys (y * w + x)) → xs ≡ ys
same_by_rows w h xs ys long also each = same_number_lists xs ys (long ∙ sym also)
    (λ i below.
    let there = in_rows w h i (omega (arith, below, long)) in
    let place : i / w * w + i % w ≡ i = div-add-mod' i w in
    ap (slice_index xs) (sym place) ∙ each (i % w) (i / w) there.0 there.1 ∙ ap (slice_index ys) place)

pub one_image : (bytes : List ℕ) (a b : PaletteImage) → Image bytes a → Image bytes b → a ≡ b
one_image bytes a b x y =
    let wide : b.width ≡ a.width = y.width ∙ sym x.width in
    let tall : b.height ≡ a.height = y.height ∙ sym x.height in
    same_image a b (sym wide) (sym tall)
    (same_by_rows a.width a.height a.pixels b.pixels x.drawn (y.drawn ∙ ap (λ (w : ℕ). w * b.height) wide ∙ ap (λ (h : ℕ). a.width * h) tall)
    (λ column row within below.
    x.pixels column row within below ∙ sym (y.pixels column row (omega (arith, within, wide)) (omega (arith, below, tall)))
    ∙ ap (λ (w : ℕ). slice_index b.pixels (row * w + column)) wide))
    (same_by_rows MAX_COLOURS 3 a.colour_map b.colour_map x.mapped y.mapped (λ k part within below. x.colours part k below within ∙ sym (y.colours part k below within)))

-- a list by its places
listed : (ℕ → ℕ) → ℕ → List ℕ
listed f n = map f (range_with_len 0 n)

length-listed : (f : ℕ → ℕ) (n : ℕ) → length (listed f n) ≡ n
unfolding listed
length-listed f n = length-map-range_with_len f 0 n

get_or-listed : (f : ℕ → ℕ) (n k : ℕ) → k < n → slice_index (listed f n) k ≡ f k
unfolding listed
get_or-listed f n k below = get_or-map-range_with_len f 0 n k k 0 below (omega arith)

-- what stands in a column and a row of a list that is made of rows
by_rows : (g : ℕ → ℕ → ℕ) (w h x y : ℕ) → x < w → y < h → slice_index (listed (λ i. g (i % w) (i / w)) (w * h)) (y * w + x) ≡ g x y
by_rows g w h x y within below =
    get_or-listed (λ i. g (i % w) (i / w)) (w * h) (y * w + x) (mul-add-lt y w x h below within)
    ∙ ap (λ (k : ℕ). g k ((y * w + x) / w)) (mul-add-mod_self_right y w x ∙ mod-eq_of_lt within) ∙ ap (g x) (div-mul-add y w x within)

none_first : (faults : List TiffFault) → slice_get faults 0 ≡ None → faults ≡ []
none_first [] e = refl
none_first (f ∷ fs) e = absurd (cc)

pub some_image : (bytes : List ℕ) → image_fault bytes ≡ None → (image : PaletteImage) × Image bytes image
some_image bytes e =
    let l = layout_of bytes in
    let pixel : ℕ → ℕ → ℕ = pixel_of l bytes in
    let pixels = listed (λ i. pixel (i % l.width) (i / l.width)) (l.width * l.height) in
    let shade : ℕ → ℕ → ℕ = λ k part. shade_of l.bits bytes part k in
    let colours = listed (λ i. shade (i % MAX_COLOURS) (i / MAX_COLOURS)) (MAX_COLOURS * 3) in (
      image_with l.width l.height pixels colours,
      record {
        sound = e;
        width = refl;
        height = refl;
        drawn = length-listed (λ i. pixel (i % l.width) (i / l.width)) (l.width * l.height);
        pixels = λ x y within below. by_rows pixel l.width l.height x y within below;
        mapped = length-listed (λ i. shade (i % MAX_COLOURS) (i / MAX_COLOURS)) (MAX_COLOURS * 3);
        colours = λ part k below within. by_rows shade MAX_COLOURS 3 k part within below;
      },
    )
