-- Numbers of equal length that stand one after another.
use Rattle.std.proofs.Common.{◌≡◌, ◌<◌, ◌^◌, ◌∙◌, sym, ap, ℕ, zero, suc, ◌+◌, ◌*◌, List, [], ◌∷◌, ◌++◌, length, length-append, drop, slice_index, append_assoc, arith}
use Rattle.std.specs.List.{flat_map}
use Rattle.byteorder.specs.Endian.{little_bytes, little_number}
use Rattle.byteorder.specs.Numbers.{little_number-reads_back, length-bytes_low_first}
use Rattle.std.proofs.Math.Seq.{drop-append-add}
use Rattle.std.proofs.Math.Nat.{mul-suc, mul-zero, add_comm}
use Rattle.tiff_palette.specs.declared.numbers.Order.TheVariants.{Little}
use Rattle.tiff_palette.specs.Numbers.{number_at}

drop_into : (xs ys : List ℕ) (a n k : ℕ) → a ≡ length xs → n ≡ a + k → drop n (xs ++ ys) ≡ drop k ys
drop_into xs ys a n k e f = ap (λ m. drop m (xs ++ ys)) (f ∙ ap (λ m. m + k) e) ∙ drop-append-add xs ys k

bytes_length : (n x : ℕ) → length (little_bytes n x) ≡ n
bytes_length n x = length-bytes_low_first 0 n x

-- number k of an array of numbers of n bytes
array_drop : (n : ℕ) (xs rest : List ℕ) (k : ℕ) → k < length xs → slice_index xs k < 256 ^ n
    → little_number n (drop (n * k) (flat_map (little_bytes n) xs ++ rest)) ≡ slice_index xs k
array_drop n [] rest k below fits = absurd (omega arith)
array_drop n (y ∷ ys) rest zero below fits =
    ap (λ bytes. little_number n (drop (n * 0) bytes)) (append_assoc (little_bytes n y) (flat_map (little_bytes n) ys) rest)
    ∙ ap (λ m. little_number n (drop m (little_bytes n y ++ (flat_map (little_bytes n) ys ++ rest)))) (mul-zero n)
    ∙ little_number-reads_back n y (flat_map (little_bytes n) ys ++ rest) fits
array_drop n (y ∷ ys) rest (suc k) below fits =
    ap (λ bytes. little_number n (drop (n * suc k) bytes)) (append_assoc (little_bytes n y) (flat_map (little_bytes n) ys) rest)
    ∙ ap (little_number n) (drop_into (little_bytes n y) (flat_map (little_bytes n) ys ++ rest) n (n * suc k) (n * k) (sym (bytes_length n y)) (mul-suc n k ∙ add_comm (n * k) n))
    ∙ array_drop n ys rest k (omega arith) fits

pub array_at : (n : ℕ) (front xs rest : List ℕ) (place k a : ℕ) → a ≡ length front → place ≡ a + n * k → k < length xs → slice_index xs k < 256 ^ n
    → number_at Little n place (front ++ (flat_map (little_bytes n) xs ++ rest)) ≡ slice_index xs k
unfolding number_at
array_at n front xs rest place k a e f below fits =
    ap (little_number n) (drop_into front (flat_map (little_bytes n) xs ++ rest) a place (n * k) e f) ∙ array_drop n xs rest k below fits

pub array_length : (n : ℕ) (xs : List ℕ) → length (flat_map (little_bytes n) xs) ≡ n * length xs
array_length n [] = sym (mul-zero n)
array_length n (y ∷ ys) =
    let a = length-append (little_bytes n y) (flat_map (little_bytes n) ys) in
    let b = bytes_length n y in
    let c = array_length n ys in
    let d = mul-suc n (length ys) in
    omega (arith, a, b, c, d)
