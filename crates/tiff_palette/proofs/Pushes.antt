-- Lists that are written item by item, and the strips of what is written.
use Rattle.std.proofs.Common.{◌≡◌, ◌<◌, ◌≤◌, ℕ, ◌+◌, ◌-◌, ◌*◌, ◌/◌, List, [], ◌∷◌, ◌++◌, length, take, slice_index, map, sym, ap, ◌∙◌, ⊎_elim, arith, append_assoc, append-nil, add-one}
use Rattle.std.specs.List.{range_with_len, flat_map}
use Rattle.std.proofs.Math.Nat.{mul-le-mul_right, div-mul-le_self, add-mul, mul_comm}
use Rattle.std.proofs.lemmas.Bool.{cases_lt}
use Rattle.std.proofs.Math.Seq.{take-suc}
use Rattle.std.proofs.lemmas.Grind.{flat_map-append}
use Rattle.std.proofs.lemmas.List.FromFn.{map-range_with_len_more}
use Rattle.tiff_palette.specs.declared.layout.Layout.{Layout}
use Rattle.tiff_palette.specs.Layouts.{strips_of}

one_more : (f : ℕ → List ℕ) (out xs : List ℕ) (x : ℕ) → out ++ flat_map f (xs ++ x ∷ []) ≡ (out ++ flat_map f xs) ++ f x
one_more f out xs x =
    ap (λ ys. out ++ ys) (flat_map-append f xs (x ∷ []) ∙ ap (λ ys. flat_map f xs ++ ys) (append-nil (f x))) ∙ sym (append_assoc out (flat_map f xs) (f x))

pub mapped_more : (f : ℕ → List ℕ) (g : ℕ → ℕ) (out : List ℕ) (n : ℕ) → out ++ flat_map f (map g (range_with_len 0 (n + 1))) ≡ (out ++ flat_map f (map g (range_with_len 0 n))) ++ f (g n)
mapped_more f g out n = ap (λ xs. out ++ flat_map f xs) (map-range_with_len_more g 0 n n (omega arith)) ∙ one_more f out (map g (range_with_len 0 n)) (g n)

pub taken_more : (f : ℕ → List ℕ) (out xs : List ℕ) (n : ℕ) → n < length xs → out ++ flat_map f (take (n + 1) xs) ≡ (out ++ flat_map f (take n xs)) ++ f (slice_index xs n)
taken_more f out xs n below =
    ap (λ m. out ++ flat_map f (take m xs)) (add-one n) ∙ ap (λ ys. out ++ flat_map f ys) (take-suc xs n 0 below) ∙ one_more f out (take n xs) (slice_index xs n)

-- a strip begins above the end of the image
strip_begins : (h r k : ℕ) → 0 < r → k < (h + r - 1) / r → k * r < h
strip_begins h r k some below =
    let a : (k + 1) * r ≤ (h + r - 1) / r * r = mul-le-mul_right r (omega arith) in
    let b : (h + r - 1) / r * r ≤ h + r - 1 = div-mul-le_self (h + r - 1) r in
    let c : (k + 1) * r ≡ k * r + 1 * r = add-mul k 1 r in
    omega (arith, a, b, c)

-- there are no more strips than rows
pub strips_few : (l : Layout) → 0 < l.rows_per_strip → strips_of l ≤ l.height
unfolding strips_of
strips_few l some = ⊎_elim
    (λ (more : l.height < (l.height + l.rows_per_strip - 1) / l.rows_per_strip). absurd
    (let a = strip_begins l.height l.rows_per_strip l.height some more in
    let b : 1 * l.height ≤ l.rows_per_strip * l.height = mul-le-mul_right l.height some in
    let c = mul_comm l.rows_per_strip l.height in
    omega (arith, a, b, c)))
    (λ (few : (l.height + l.rows_per_strip - 1) / l.rows_per_strip ≤ l.height). few)
    (cases_lt l.height ((l.height + l.rows_per_strip - 1) / l.rows_per_strip))

-- the rows above a strip are rows of the image
pub strip_rows : (l : Layout) (n k : ℕ) → n ≡ strips_of l → 0 < l.rows_per_strip → k < n → k * l.rows_per_strip ≤ l.height
unfolding strips_of
strip_rows l n k counted some below = let h = strip_begins l.height l.rows_per_strip k some (rw (← counted) below) in omega (arith, h)

pub strip_area : (l : Layout) (n k : ℕ) → n ≡ strips_of l → 0 < l.rows_per_strip → k < n → k * l.rows_per_strip * l.width ≤ l.width * l.height
strip_area l n k counted some below =
    let h : k * l.rows_per_strip * l.width ≤ l.height * l.width = mul-le-mul_right l.width (strip_rows l n k counted some below) in
    let c = mul_comm l.height l.width in
    omega (arith, h, c)
