-- Bytes by their bits, and numbers by their bytes.
use Rattle.std.proofs.Common.{◌≡◌, ℕ, zero, suc, ◌+◌, ◌*◌, ◌/◌, ◌%◌, ◌^◌, ◌<◌, List, drop, get_or, slice_index, sym, ap, refl, ◌∙◌, arith}
use Rattle.std.proofs.lemmas.List.{get_or-drop}
use Rattle.std.specs.Int.{byte_at}
use Rattle.byteorder.specs.Endian.{big_bytes}
use Rattle.card_image.specs.Places.{number_at}
use Rattle.card_image.specs.Chains.{StandsAt}

-- a list of bytes
abbrev pub IsBytes : List ℕ → Type 0
IsBytes bytes = (i : ℕ) → slice_index bytes i < 256

byte_value : (bytes : List ℕ) (at i : ℕ) → get_or (drop at bytes) i 0 ≡ get_or bytes (at + i) 0
byte_value bytes at i = get_or-drop at bytes i 0

pub number_sum : (bytes : List ℕ) (at : ℕ)
    → number_at bytes at ≡ get_or bytes at 0 * 16777216 + get_or bytes (at + 1) 0 * 65536 + get_or bytes (at + 2) 0 * 256 + get_or bytes (at + 3) 0
number_sum bytes at =
    let b0 = byte_value bytes at 0 in
    let b1 = byte_value bytes at 1 in
    let b2 = byte_value bytes at 2 in
    let b3 = byte_value bytes at 3 in
    let e : at + 0 ≡ at = omega arith in
    let c0 : get_or (drop at bytes) 0 0 ≡ get_or bytes at 0 = b0 ∙ ap (λ (k : ℕ). get_or bytes k 0) e in
    omega (arith, c0, b1, b2, b3)

-- four bytes of a number stand where they read as that number
pub number_stands : (bytes : List ℕ) (at n : ℕ) → IsBytes bytes → number_at bytes at ≡ n → StandsAt bytes at (big_bytes 4 n)
number_stands bytes at n small is i low =
    let s = number_sum bytes at in
    let f0 = small at in
    let f1 = small (at + 1) in
    let f2 = small (at + 2) in
    let f3 = small (at + 3) in
    let p3 : byte_at 3 n ≡ n / 16777216 % 256 = refl in
    let p2 : byte_at 2 n ≡ n / 65536 % 256 = refl in
    let p1 : byte_at 1 n ≡ n / 256 % 256 = refl in
    let p0 : byte_at 0 n ≡ n % 256 = refl in
    let e : at + 0 ≡ at = omega arith in
    four i low
    (ap (λ (k : ℕ). get_or bytes k 0) e ∙ omega (arith, s, is, f0, f1, f2, f3, p3))
    (omega (arith, s, is, f0, f1, f2, f3, p2)) (omega (arith, s, is, f0, f1, f2, f3, p1)) (omega (arith, s, is, f0, f1, f2, f3, p0)) where
      four : (i : ℕ) → i < 4 → get_or bytes (at + 0) 0 ≡ byte_at 3 n → get_or bytes (at + 1) 0 ≡ byte_at 2 n → get_or bytes (at + 2) 0 ≡ byte_at 1 n → get_or bytes (at + 3) 0 ≡ byte_at 0 n
          → get_or bytes (at + i) 0 ≡ get_or (big_bytes 4 n) i 0
      four zero low e0 e1 e2 e3 = e0
      four (suc zero) low e0 e1 e2 e3 = e1
      four (suc (suc zero)) low e0 e1 e2 e3 = e2
      four (suc (suc (suc zero))) low e0 e1 e2 e3 = e3
      four (suc (suc (suc (suc i)))) low e0 e1 e2 e3 = absurd (omega (arith, low))

-- and where they stand they read as it
pub number_read : (bytes : List ℕ) (at n : ℕ) → n < 2 ^ 32 → StandsAt bytes at (big_bytes 4 n) → number_at bytes at ≡ n
number_read bytes at n small stands =
    let s = number_sum bytes at in
    let e : at + 0 ≡ at = omega arith in
    let b0 : get_or bytes at 0 ≡ byte_at 3 n = ap (λ (k : ℕ). get_or bytes k 0) (sym e) ∙ stands 0 (omega arith) in
    let b1 : get_or bytes (at + 1) 0 ≡ byte_at 2 n = stands 1 (omega arith) in
    let b2 : get_or bytes (at + 2) 0 ≡ byte_at 1 n = stands 2 (omega arith) in
    let b3 : get_or bytes (at + 3) 0 ≡ byte_at 0 n = stands 3 (omega arith) in
    let p3 : byte_at 3 n ≡ n / 16777216 % 256 = refl in
    let p2 : byte_at 2 n ≡ n / 65536 % 256 = refl in
    let p1 : byte_at 1 n ≡ n / 256 % 256 = refl in
    let p0 : byte_at 0 n ≡ n % 256 = refl in
    omega (arith, s, b0, b1, b2, b3, p0, p1, p2, p3, small)
