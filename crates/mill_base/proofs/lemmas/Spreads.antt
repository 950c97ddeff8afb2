-- Bytes that stand for bits, 16 at a time.
use Rattle.std.proofs.Common.{◌≡◌, ◌+◌, ◌*◌, ◌/◌, ◌%◌, ◌^◌, ◌<◌, ◌==◌, ℕ, zero, suc, Bool, true, false, cond, List, ◌++◌, length, get_or, bit_and, w64, refl, ap, ◌∙◌, arith}
use lib.Lanes.{top}
use Rattle.std.specs.Int.{bit_at, to_le_bytes}
use Rattle.std.proofs.lemmas.Bool.{eq-eqb, ne_eqb}
use Rattle.std.proofs.lemmas.List.{get_or_append_left}
use Rattle.std.proofs.lemmas.Nat.{pow_pos}
use Rattle.std.proofs.lemmas.Nat.Bits.{and_pow, bit_at-lt}
use Rattle.mill_base.proofs.lemmas.Bytes.{bit_of_byte}

-- lane i, by the bytes of a word
abbrev pub lane : List ℕ → ℕ → ℕ → ℕ → ℕ
lane bytes on off i = cond (top 7 (cond (bit_and (get_or (bytes ++ bytes) (i / 8) 0) (2 ^ (i % 8)) == 2 ^ (i % 8)) 255 0)) on off

top_is : (t : Bool) → top 7 (cond t 255 0) ≡ t
top_is true = refl
top_is false = refl

alone : (bit power : ℕ) → bit < 2 → 0 < power → (bit * power == power) ≡ (bit == 1)
alone zero power h some = ne_eqb (0 * power) power (λ e. absurd (omega (arith, e, some)))
alone (suc zero) power h some = eq-eqb (1 * power) power (omega arith)
alone (suc (suc bit)) power h some = absurd (omega (arith, h))

length-bytes : (n : ℕ) → length (to_le_bytes w64 n) ≡ 8
length-bytes n = refl

pub lane_is : (bits on off i : ℕ) (bytes : List ℕ) → i < 16 → bytes ≡ to_le_bytes w64 bits → lane bytes on off i ≡ cond (bit_at bits i == 1) on off
lane_is bits on off i bytes h is =
    let long : length bytes ≡ 8 = ap length is ∙ length-bytes bits in
    let byte : get_or (bytes ++ bytes) (i / 8) 0 ≡ get_or (to_le_bytes w64 bits) (i / 8) 0 =
    get_or_append_left bytes bytes 0 (i / 8) (omega arith) ∙ ap (λ l. get_or l (i / 8) 0) is in
    let place : 8 * (i / 8) + i % 8 ≡ i = omega arith in
    let own : ℕ = get_or (bytes ++ bytes) (i / 8) 0 in
    ap (λ t. cond t on off)
    (top_is (bit_and own (2 ^ (i % 8)) == 2 ^ (i % 8))
    ∙ ap (λ n. n == 2 ^ (i % 8)) (and_pow own (i % 8))
    ∙ alone (bit_at own (i % 8)) (2 ^ (i % 8)) (bit_at-lt own (i % 8)) (pow_pos (i % 8))
    ∙ ap (λ b. bit_at b (i % 8) == 1) byte
    ∙ ap (λ n. n == 1) (bit_of_byte bits (i / 8) (i % 8) (omega arith) (omega arith) ∙ ap (bit_at bits) place))
