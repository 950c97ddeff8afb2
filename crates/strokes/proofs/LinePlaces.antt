-- Where the cells of a line lie, and the stretches of them on one pick.
use Rattle.std.proofs.Common.{◌≡◌, ◌≢◌, ℕ, ◌+◌, ◌-◌, ◌*◌, ◌/◌, ◌<◌, ◌≤◌, min, max, Bool, true, ◌&&◌, ◌||◌, ap, sym, refl, ◌∙◌, ⊎_elim, arith}
use Rattle.std.specs.Prelude.{◌==◌, nat_le, nat_lt}
use Rattle.std.proofs.Math.Nat.{mul_assoc, mul_comm, mul-le-mul_right, div-zero, div-eq_of_lt, div-mul-le_self, add-mul-div_left, add-mul}
use Rattle.std.proofs.lemmas.Nat.{div-mul-add, le-div}
use Rattle.std.proofs.lemmas.Bool.{cases_eq, cases_lt, cond-true, cond-false, le-leb, lt-leb, or_cases, or_left, or_right, and_parts, and_from, leb-true, ltb-true, eqb-true, eq-eqb, lt-ltb}
use Rattle.mill_base.specs.Below.{any_below}
use Rattle.mill_base.proofs.lemmas.Belows.{true_together, any_here, any_witness}
use Rattle.strokes.specs.Paints.{distance, towards, line_step, line_length, line_place, is_line_cell}

whole_quotient : (n d : ℕ) → 0 < n → (2 * n * d + n) / (2 * n) ≡ d
whole_quotient n d some =
    let turned : 2 * n * d ≡ d * (2 * n) = mul_comm (2 * n) d in
    ap (λ x. (x + n) / (2 * n)) turned ∙ div-mul-add d (2 * n) n (omega arith)

-- the last cell lies the whole distance on
step_last : (n d : ℕ) → d ≤ n → line_step n d n ≡ d
unfolding line_step
step_last n d short = ⊎_elim
    (λ (none : n ≡ 0). let e : d ≡ 0 = omega arith in rw (none, e) refl)
    (λ (some : n ≢ 0). whole_quotient n d (omega arith))
    (cases_eq n 0)

-- where the distance is the greatest, each cell lies one further than the one before
pub step_whole : (n i : ℕ) → i ≤ n → line_step n n i ≡ i
unfolding line_step
step_whole n i within = ⊎_elim
    (λ (none : n ≡ 0). let e : i ≡ 0 = omega arith in rw (none, e) refl)
    (λ (some : n ≢ 0).
    let turned : 2 * i * n ≡ i * (2 * n) = ap (λ x. x * n) (mul_comm 2 i) ∙ mul_assoc i 2 n in
    ap (λ x. (x + n) / (2 * n)) turned ∙ div-mul-add i (2 * n) n (omega arith))
    (cases_eq n 0)

-- the same, of a distance that is the greatest
step_full : (n d i : ℕ) → n ≡ d → i ≤ n → line_step n d i ≡ i
step_full n d i full within = ap (λ m. line_step n m i) (sym full) ∙ step_whole n i within

quotient_rises : (x y k : ℕ) → x ≤ y → x / k ≤ y / k
quotient_rises x y k h = ⊎_elim
    (λ (none : k ≡ 0). let a : x / k ≡ 0 = ap (λ m. x / m) none ∙ div-zero x in omega (arith, a))
    (λ (some : k ≢ 0). le-div (x / k) y k (omega arith) (omega (arith, div-mul-le_self x k)))
    (cases_eq k 0)

-- a later cell does not lie less far on
pub step_rises : (n d i j : ℕ) → i ≤ j → line_step n d i ≤ line_step n d j
unfolding line_step
step_rises n d i j h = quotient_rises (2 * i * d + n) (2 * j * d + n) (2 * n) (omega (arith, mul-le-mul_right {m = 2 * i} {n = 2 * j} d (omega arith)))

pub step_within : (n d i : ℕ) → d ≤ n → i ≤ n → line_step n d i ≤ d
step_within n d i short within = omega (arith, step_rises n d i n within, step_last n d short)

-- cell 0 is the first corner
pub step_first : (n d : ℕ) → line_step n d 0 ≡ 0
unfolding line_step
step_first n d = ⊎_elim
    (λ (none : n ≡ 0). ap (λ m. (2 * 0 * d + n) / (2 * m)) none ∙ div-zero (2 * 0 * d + n))
    (λ (some : n ≢ 0). div-eq_of_lt {n = 2 * 0 * d + n} {m = 2 * n} (omega arith))
    (cases_eq n 0)

-- the next cell lies at most one further on
step_next : (n d i : ℕ) → d ≤ n → line_step n d (i + 1) ≤ line_step n d i + 1
unfolding line_step
step_next n d i short = ⊎_elim
    (λ (none : n ≡ 0). omega (arith, ap (λ m. (2 * (i + 1) * d + n) / (2 * m)) none ∙ div-zero (2 * (i + 1) * d + n)))
    (λ (some : n ≢ 0).
    let more : 2 * (i + 1) * d ≡ 2 * i * d + 2 * d = ap (λ m. m * d) (twice_more i) ∙ add-mul (2 * i) 2 d in
    omega (arith, quotient_rises (2 * (i + 1) * d + n) (2 * i * d + n + 2 * n * 1) (2 * n) (omega (arith, more, short)), add-mul-div_left (2 * i * d + n) 1 {y = 2 * n} (omega arith)))
    (cases_eq n 0)
  where
    twice_more : (k : ℕ) → 2 * (k + 1) ≡ 2 * k + 2
    twice_more k = omega arith

pub towards_up : (a b k : ℕ) → a ≤ b → towards a b k ≡ a + k
towards_up a b k up = cond-true (nat_le a b) (a + k) (a - k) (le-leb a b up)

pub towards_down : (a b k : ℕ) → b < a → towards a b k ≡ a - k
towards_down a b k down = cond-false (nat_le a b) (a + k) (a - k) (lt-leb a b down)

-- places of cells from i to j, of which k lies between
record Between (a b n i k j : ℕ) : Type 0 where
  low : min (line_place n a b i) (line_place n a b j) ≤ line_place n a b k
  high : line_place n a b k ≤ max (line_place n a b i) (line_place n a b j)

places_between : (a b n i k j : ℕ) → distance a b ≤ n → i ≤ k → k ≤ j → j ≤ n → Between a b n i k j
places_between a b n i k j short ik kj jn =
    let f = line_step n (distance a b) in
    let fi : f i ≤ f k = step_rises n (distance a b) i k ik in
    let fk : f k ≤ f j = step_rises n (distance a b) k j kj in
    let fj : f j ≤ distance a b = step_within n (distance a b) j short jn in
    ⊎_elim
    (λ (down : b < a). record {
      low = omega (arith, towards_down a b (f i) down, towards_down a b (f j) down, towards_down a b (f k) down, fi, fk, fj);
      high = omega (arith, towards_down a b (f i) down, towards_down a b (f j) down, towards_down a b (f k) down, fi, fk, fj);
    })
    (λ (up : a ≤ b). record {
      low = omega (arith, towards_up a b (f i) up, towards_up a b (f j) up, towards_up a b (f k) up, fi, fk, fj);
      high = omega (arith, towards_up a b (f i) up, towards_up a b (f j) up, towards_up a b (f k) up, fi, fk, fj);
    })
    (cases_lt b a)

-- where the distance is the greatest, two cells lie at one place only if they are one
same_place : (a b n i j : ℕ) → n ≡ distance a b → i ≤ n → j ≤ n → line_place n a b i ≡ line_place n a b j → i ≡ j
same_place a b n i j full ih jh same =
    let fi : line_step n (distance a b) i ≡ i = step_full n (distance a b) i full ih in
    let fj : line_step n (distance a b) j ≡ j = step_full n (distance a b) j full jh in
    ⊎_elim
    (λ (down : b < a). omega (arith, towards_down a b (line_step n (distance a b) i) down, towards_down a b (line_step n (distance a b) j) down, fi, fj, same, ih, jh, down, full))
    (λ (up : a ≤ b). omega (arith, towards_up a b (line_step n (distance a b) i) up, towards_up a b (line_step n (distance a b) j) up, fi, fj, same))
    (cases_lt b a)

-- where the distance is the greatest, each place between those of two cells has a cell
record HasPlace (a b n i j c : ℕ) : Type 0 where
  at : ℕ
  ahead : i ≤ at
  within : at ≤ j
  here : c ≡ line_place n a b at

has_place : (a b n i j c : ℕ) → n ≡ distance a b → i ≤ j → j ≤ n → min (line_place n a b i) (line_place n a b j) ≤ c → c ≤ max (line_place n a b i) (line_place n a b j) → HasPlace a b n i j c
has_place a b n i j c full ij jh low high =
    let d = distance a b in
    let fi : line_step n d i ≡ i = step_full n d i full (omega (arith, ij, jh)) in
    let fj : line_step n d j ≡ j = step_full n d j full jh in
    ⊎_elim
    (λ (down : b < a).
    let pi = towards_down a b (line_step n d i) down in
    let pj = towards_down a b (line_step n d j) down in
    let within : a - c ≤ j = omega (arith, pi, pj, fi, fj, low, high, ij, jh, down, full) in
    let above : c ≤ a = omega (arith, pi, pj, fi, fj, low, high, ij, jh, down, full) in
    let at_place = towards_down a b (line_step n d (a - c)) down in
    let at_step = step_full n d (a - c) full (omega (arith, within, jh)) in
    record {
      at = a - c;
      ahead = omega (arith, pi, pj, fi, fj, low, high, ij, jh, down, full);
      within = within;
      here = omega (arith, at_place, at_step, above);
    })
    (λ (up : a ≤ b).
    let pi = towards_up a b (line_step n d i) up in
    let pj = towards_up a b (line_step n d j) up in
    let within : c - a ≤ j = omega (arith, pi, pj, fi, fj, low, high, ij) in
    let above : a ≤ c = omega (arith, pi, pj, fi, fj, low, high, ij) in
    let at_place = towards_up a b (line_step n d (c - a)) up in
    let at_step = step_full n d (c - a) full (omega (arith, within, jh)) in
    record {
      at = c - a;
      ahead = omega (arith, pi, pj, fi, fj, low, high, ij);
      within = within;
      here = omega (arith, at_place, at_step, above);
    })
    (cases_lt b a)

-- the cells of a stretch on one pick are those of a span, from the least of their columns to the greatest
pub stretch_covers : (c0 p0 c1 p1 start end left count pick c p : ℕ) → start ≤ end → end ≤ line_length c0 p0 c1 p1
    → ((i : ℕ) → start ≤ i → i ≤ end → line_place (line_length c0 p0 c1 p1) p0 p1 i ≡ line_place (line_length c0 p0 c1 p1) p0 p1 start)
    → left ≡ min (line_place (line_length c0 p0 c1 p1) c0 c1 start) (line_place (line_length c0 p0 c1 p1) c0 c1 end)
    → left + count ≡ max (line_place (line_length c0 p0 c1 p1) c0 c1 start) (line_place (line_length c0 p0 c1 p1) c0 c1 end) + 1
    → pick ≡ line_place (line_length c0 p0 c1 p1) p0 p1 start
    → (any_below (is_line_cell c0 p0 c1 p1 c p) start || ((p == pick) && nat_le left c && nat_lt c (left + count))) ≡ any_below (is_line_cell c0 p0 c1 p1 c p) (end + 1)
stretch_covers c0 p0 c1 p1 start end left count pick c p ahead within level left_is right_is pick_is = true_together (any_below hit start || covered) (any_below hit (end + 1)) there back where
  n : ℕ
  n = line_length c0 p0 c1 p1

  hit : ℕ → Bool
  hit = is_line_cell c0 p0 c1 p1 c p

  covered : Bool
  covered = (p == pick) && nat_le left c && nat_lt c (left + count)

  is_hit : (i : ℕ) → c ≡ line_place n c0 c1 i → p ≡ line_place n p0 p1 i → hit i ≡ true
  is_hit i column row = and_from (c == line_place n c0 c1 i) (p == line_place n p0 p1 i) (eq-eqb c (line_place n c0 c1 i) column) (eq-eqb p (line_place n p0 p1 i) row)

  flat : n ≡ distance c0 c1 → p ≡ pick → left ≤ c → c < left + count → any_below hit (end + 1) ≡ true
  flat full row low high =
      let w = has_place c0 c1 n start end c full ahead within (omega (arith, low, left_is)) (omega (arith, high, right_is)) in
      any_here hit (end + 1) w.at (let h = w.within in omega arith) (is_hit w.at w.here (row ∙ pick_is ∙ sym (level w.at w.ahead w.within)))

  steep : n ≡ distance p0 p1 → p ≡ pick → left ≤ c → c < left + count → any_below hit (end + 1) ≡ true
  steep full row low high =
      let one : end ≡ start = same_place p0 p1 n end start full within (omega (arith, ahead, within)) (level end ahead (omega arith)) in
      let same : line_place n c0 c1 end ≡ line_place n c0 c1 start = ap (line_place n c0 c1) one in
      any_here hit (end + 1) start (omega (arith, ahead)) (is_hit start (omega (arith, low, high, left_is, right_is, same)) (row ∙ pick_is))

  there : (any_below hit start || covered) ≡ true → any_below hit (end + 1) ≡ true
  there some = ⊎_elim
      (λ (before : any_below hit start ≡ true). let w = any_witness hit start before in any_here hit (end + 1) w.0 (let h = w.1 in omega (arith, ahead)) w.2)
      (λ (here : covered ≡ true).
      let parts = and_parts ((p == pick) && nat_le left c) (nat_lt c (left + count)) here in
      let more = and_parts (p == pick) (nat_le left c) parts.0 in
      let row = eqb-true p pick more.0 in
      let low = leb-true left c more.1 in
      let high = ltb-true c (left + count) parts.1 in
      ⊎_elim
      (λ (down : distance c0 c1 < distance p0 p1). steep (omega (arith, down)) row low high)
      (λ (up : distance p0 p1 ≤ distance c0 c1). flat (omega (arith, up)) row low high)
      (cases_lt (distance c0 c1) (distance p0 p1)))
      (or_cases (any_below hit start) covered some)

  back : any_below hit (end + 1) ≡ true → (any_below hit start || covered) ≡ true
  back some =
      let w = any_witness hit (end + 1) some in
      ⊎_elim
      (λ (before : w.0 < start). or_left (any_below hit start) covered (any_here hit start w.0 before w.2))
      (λ (behind : start ≤ w.0).
      let parts = and_parts (c == line_place n c0 c1 w.0) (p == line_place n p0 p1 w.0) w.2 in
      let column = eqb-true c (line_place n c0 c1 w.0) parts.0 in
      let row = eqb-true p (line_place n p0 p1 w.0) parts.1 in
      let last : w.0 ≤ end = (let h = w.1 in omega arith) in
      let between = places_between c0 c1 n start w.0 end (omega arith) behind last within in
      or_right (any_below hit start) covered
      (and_from ((p == pick) && nat_le left c) (nat_lt c (left + count))
      (and_from (p == pick) (nat_le left c) (eq-eqb p pick (row ∙ level w.0 behind last ∙ sym pick_is)) (le-leb left c (let h = between.low in omega (arith, column, left_is))))
      (lt-ltb c (left + count) (let h = between.high in omega (arith, column, right_is)))))
      (cases_lt w.0 start)

-- ---- how many stretches there are

same_step : (a b n i j : ℕ) → distance a b ≤ n → i ≤ n → j ≤ n → line_place n a b i ≡ line_place n a b j → line_step n (distance a b) i ≡ line_step n (distance a b) j
same_step a b n i j short ih jh same =
    let d = distance a b in
    let fi = step_within n d i short ih in
    let fj = step_within n d j short jh in
    ⊎_elim
    (λ (down : b < a). omega (arith, towards_down a b (line_step n d i) down, towards_down a b (line_step n d j) down, fi, fj, same, down))
    (λ (up : a ≤ b). omega (arith, towards_up a b (line_step n d i) up, towards_up a b (line_step n d j) up, same))
    (cases_lt b a)

-- a stretch that ends before the last cell: the next begins one pick further on
pub stretch_next : (a b n start end : ℕ) → distance a b ≤ n → start ≤ end → end < n → line_place n a b end ≡ line_place n a b start → line_place n a b (end + 1) ≢ line_place n a b start
    → line_step n (distance a b) start + 1 ≡ line_step n (distance a b) (end + 1)
stretch_next a b n start end short ahead within level whole =
    let d = distance a b in
    let same : line_step n d end ≡ line_step n d start = same_step a b n end start short (omega (arith, within)) (omega (arith, ahead, within)) level in
    let apart : line_step n d (end + 1) ≢ line_step n d start = (λ e. whole (ap (towards a b) e)) in
    omega (arith, same, apart, step_rises n d end (end + 1) (omega arith), step_next n d end short)

-- the last stretch lies on the last pick
pub stretch_last : (a b n start end : ℕ) → distance a b ≤ n → start ≤ end → end ≡ n → line_place n a b end ≡ line_place n a b start → line_step n (distance a b) start ≡ distance a b
stretch_last a b n start end short ahead last level =
    sym (same_step a b n end start short (omega (arith, last)) (omega (arith, ahead, last)) level) ∙ ap (line_step n (distance a b)) last ∙ step_last n (distance a b) short
