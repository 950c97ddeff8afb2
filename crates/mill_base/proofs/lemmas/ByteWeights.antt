-- Numbers that are sums of the weights of eight bits, the first bit highest.
use Rattle.std.proofs.Common.{◌≡◌, ◌-◌, ◌*◌, ◌^◌, ◌<◌, ℕ, zero, suc, map, sum, arith}
use Rattle.std.specs.Int.{bit_at}
use Rattle.std.specs.List.{range_with_len}

pub same_sums : (f g : ℕ → ℕ) → ((i : ℕ) → i < 8 → f i ≡ g i) → sum (map f (range_with_len 0 8)) ≡ sum (map g (range_with_len 0 8))
same_sums f g each =
    let e0 = each 0 (omega arith) in
    let e1 = each 1 (omega arith) in
    let e2 = each 2 (omega arith) in
    let e3 = each 3 (omega arith) in
    let e4 = each 4 (omega arith) in
    let e5 = each 5 (omega arith) in
    let e6 = each 6 (omega arith) in
    let e7 = each 7 (omega arith) in
    omega arith

each_of_eight : (P : ℕ → Type 0) → P 0 → P 1 → P 2 → P 3 → P 4 → P 5 → P 6 → P 7 → (i : ℕ) → i < 8 → P i
each_of_eight P a b c d e f g h zero n = a
each_of_eight P a b c d e f g h (suc zero) n = b
each_of_eight P a b c d e f g h (suc (suc zero)) n = c
each_of_eight P a b c d e f g h (suc (suc (suc zero))) n = d
each_of_eight P a b c d e f g h (suc (suc (suc (suc zero)))) n = e
each_of_eight P a b c d e f g h (suc (suc (suc (suc (suc zero))))) n = f
each_of_eight P a b c d e f g h (suc (suc (suc (suc (suc (suc zero)))))) n = g
each_of_eight P a b c d e f g h (suc (suc (suc (suc (suc (suc (suc zero))))))) n = h
each_of_eight P a b c d e f g h (suc (suc (suc (suc (suc (suc (suc (suc i)))))))) n = absurd (omega arith)

abbrev weighed : (ℕ → ℕ) → ℕ
weighed g = sum (map (λ i. g i * 2 ^ (7 - i)) (range_with_len 0 8))

-- a sum of eight weights is a byte, whose bits are the weights'
byte_of_weights : (g : ℕ → ℕ) → ((i : ℕ) → g i < 2) → (weighed g < 256) × ((i : ℕ) → i < 8 → bit_at (weighed g) (7 - i) ≡ g i)
byte_of_weights g small =
    let a = small 0 in
    let b = small 1 in
    let c = small 2 in
    let d = small 3 in
    let e = small 4 in
    let f = small 5 in
    let h = small 6 in
    let k = small 7 in (
      omega (arith, a, b, c, d, e, f, h, k),
      each_of_eight (λ i. bit_at (weighed g) (7 - i) ≡ g i)
          (omega (arith, a, b, c, d, e, f, h, k)) (omega (arith, a, b, c, d, e, f, h, k)) (omega (arith, a, b, c, d, e, f, h, k)) (omega (arith, a, b, c, d, e, f, h, k))
          (omega (arith, a, b, c, d, e, f, h, k)) (omega (arith, a, b, c, d, e, f, h, k)) (omega (arith, a, b, c, d, e, f, h, k)) (omega (arith, a, b, c, d, e, f, h, k)),
    )

pub bit_of_sum : (g : ℕ → ℕ) → ((i : ℕ) → g i < 2) → (i : ℕ) → i < 8 → bit_at (sum (map (λ i. g i * 2 ^ (7 - i)) (range_with_len 0 8))) (7 - i) ≡ g i
bit_of_sum g small = (byte_of_weights g small).1

pub sum_is_byte : (g : ℕ → ℕ) → ((i : ℕ) → g i < 2) → sum (map (λ i. g i * 2 ^ (7 - i)) (range_with_len 0 8)) < 256
sum_is_byte g small = (byte_of_weights g small).0
