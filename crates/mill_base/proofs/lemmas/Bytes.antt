-- The eight bytes of a word, lowest first, and their bits.
use Rattle.std.proofs.Common.{◌≡◌, ◌+◌, ◌*◌, ◌/◌, ◌%◌, ◌^◌, ◌<◌, ◌≤◌, ℕ, zero, suc, map, refl, get_or, sym, subst, ap, ◌∙◌, ⊎_elim, w64, arith}
use Rattle.std.specs.List.{range_with_len}
use Rattle.std.proofs.lemmas.Bool.{cases_lt}
use Rattle.std.proofs.lemmas.List.{get_or_past}
use Rattle.std.proofs.lemmas.List.FromFn.{get_or-map-range_with_len}
use Rattle.std.specs.Int.{bit_at, byte_at, bytes_low_first, to_le_bytes, from_le_bytes}
use Rattle.std.proofs.lemmas.Nat.{le_bytes_8, pow-add}
use Rattle.std.proofs.Math.Nat.{div-one, pow-suc}
use Rattle.mill_base.proofs.lemmas.WordBits.{bit_at_shr, bit_at_low}

power : (i : ℕ) → 256 ^ i ≡ 2 ^ (8 * i)
power zero = refl
power (suc i) =
    let before = power i in
    let split : 2 ^ (8 * i + 8) ≡ 2 ^ (8 * i) * 2 ^ 8 = pow-add 2 (8 * i) 8 in
    pow-suc 256 i ∙ ap (λ n. n * 256) before ∙ sym split ∙ ap (λ n. 2 ^ n) (let e : 8 * i + 8 ≡ 8 * suc i = omega arith in e)

byte_at_is : (i n : ℕ) → byte_at i n ≡ n / 2 ^ (8 * i) % 2 ^ 8
byte_at_is zero n = ap (λ m. m % 256) (sym (div-one n))
byte_at_is (suc i) n = ap (λ m. n / m % 256) (power (suc i))

get_or-bytes_low : (i k n b : ℕ) → b < k → get_or (bytes_low_first i k n) b 0 ≡ byte_at (i + b) n
get_or-bytes_low i zero n b h = absurd (omega arith)
get_or-bytes_low i (suc k) n zero h = ap (λ m. byte_at m n) (let e : i ≡ i + 0 = omega arith in e)
get_or-bytes_low i (suc k) n (suc b) h = get_or-bytes_low (suc i) k n b (omega arith) ∙ ap (λ m. byte_at m n) (let e : suc i + b ≡ i + suc b = omega arith in e)

-- bit i of byte b of a number
pub bit_of_byte : (n b i : ℕ) → b < 8 → i < 8 → bit_at (get_or (to_le_bytes w64 n) b 0) i ≡ bit_at n (8 * b + i)
bit_of_byte n b i hb hi =
    ap (λ m. bit_at m i) (get_or-bytes_low 0 8 n b hb ∙ ap (λ m. byte_at m n) (let e : 0 + b ≡ b = omega arith in e) ∙ byte_at_is b n)
    ∙ bit_at_low (n / 2 ^ (8 * b)) 8 i hi ∙ bit_at_shr n (8 * b) i ∙ ap (bit_at n) (let e : i + 8 * b ≡ 8 * b + i = omega arith in e)

-- bit i of byte b of the eight bytes that a number was read from
pub bit_of_read : (byte : ℕ → ℕ) (n b i : ℕ) → ((j : ℕ) → j < 8 → byte j < 256) → n ≡ from_le_bytes w64 (map byte (range_with_len 0 8)) → b < 8 → i < 8
    → bit_at n (8 * b + i) ≡ bit_at (byte b) i
bit_of_read byte n b i fits is hb hi =
    sym (bit_of_byte n b i hb hi) ∙ ap (λ bs. bit_at (get_or bs b 0) i) (le_bytes_8 (map byte (range_with_len 0 8)) n refl each is)
    ∙ ap (λ m. bit_at m i) (get_or-map-range_with_len byte 0 8 b b 0 hb (omega arith)) where
      each : (j : ℕ) → get_or (map byte (range_with_len 0 8)) j 0 < 256
      each j = ⊎_elim
          (λ (low : j < 8). subst (λ m. m < 256) (sym (get_or-map-range_with_len byte 0 8 j j 0 low (omega arith))) (fits j low))
          (λ (high : 8 ≤ j). subst (λ m. m < 256) (sym (get_or_past (map byte (range_with_len 0 8)) j 0 high)) (omega arith))
          (cases_lt j 8)
