-- How many acts are marked, and where the shifts begin.
use Rattle.std.proofs.Common.{◌≡◌, ◌≢◌, ◌+◌, ◌-◌, ◌*◌, ◌^◌, ◌<◌, ◌≤◌, ◌==◌, ◌&&◌, ◌⊎◌, inl, inr, ℕ, zero, suc, Bool, true, false, cond, not, min, List, [], ◌∷◌, ◌++◌, length, get_or, set, take, replicate, refl, sym, ap, subst, ◌∙◌, arith, sum_by}
use Rattle.std.specs.Prelude.{All, slice_index, nat_lt, count_by}
use Rattle.std.proofs.lemmas.Bool.{cases_eq, cases_lt}
use Rattle.std.proofs.lemmas.Bool.Decides.{nat_tests}
use Rattle.std.proofs.lemmas.List.{get_or-set_same, get_or-set_other, get_or-replicate, length-replicate, get_or_append_left, get_or-append-add, get_or_past, length-set}
use Rattle.std.proofs.lemmas.List.Sums.{sum_by_push, sum_by-take-le, count_by-le-length}
use Rattle.block_journal.specs.declared.mark.Mark.{Mark}
use Rattle.session_file.specs.Counts.{told}
use Rattle.session_file.specs.Plans.{Fits, acts_in}
use Rattle.session_file.specs.declared.session.Session.{Session}
use Rattle.session_file.specs.declared.session.ShiftPlan.{ShiftPlan}
use Rattle.shift_model.specs.Plans.{acts_of_painter, plan_of}
use Rattle.version_keep.specs.Blocks.{acts_below, is_next, is_next_of_painter, lacks_acts, marked}
use Rattle.version_keep.specs.Doings.{AreCounts, AreStarts, IsMarkOf}

pub few_below : (session : Session) (shift : ℕ) → Fits session → acts_below session shift ≤ 65536
few_below session shift fits = omega (arith, fits.acts, sum_by-take-le (λ (plan : ShiftPlan). sum_by length plan.painters) session.shifts shift)

pub told_below : (session : Session) (shift : ℕ) → Fits session → told (acts_below session shift) ≡ acts_below session shift
told_below session shift fits = omega (arith, few_below session shift fits)

pub few_painters : (session : Session) (shift : ℕ) → Fits session → shift < length session.shifts → length (plan_of session shift).painters ≤ 64
few_painters session shift fits here = omega (arith, (fits.plans shift (record { repeats = []; painters = [] }) here).painters)

abbrev one_if : Mark → ℕ → ℕ → ℕ
one_if mark shift painter = cond ((mark.shift == shift) && (mark.painter == painter)) 1 0

marked-push : (marks : List Mark) (mark : Mark) (shift painter : ℕ) → marked shift painter (marks ++ mark ∷ []) ≡ marked shift painter marks + one_if mark shift painter
marked-push marks mark shift painter = sum_by_push (λ (m : Mark). cond ((m.shift == shift) && (m.painter == painter)) 1 0) marks mark

pub lt_yes : (a b : ℕ) → a < b → nat_lt a b ≡ true
lt_yes a b h = grind (arith, nat_tests)

pub lt_no : (a b : ℕ) → b ≤ a → nat_lt a b ≡ false
lt_no a b h = grind (arith, nat_tests)

pub eq_yes : (a b : ℕ) → a ≡ b → (a == b) ≡ true
eq_yes a b h = grind (arith, nat_tests)

pub eq_no : (a b : ℕ) → a ≢ b → (a == b) ≡ false
eq_no a b h = grind (arith, nat_tests)

and_none : (b : Bool) → (b && false) ≡ false
and_none true = refl
and_none false = refl

same_one : (mark : Mark) (shift painter : ℕ) → mark.shift ≡ shift → mark.painter ≡ painter → one_if mark shift painter ≡ 1
same_one mark shift painter s p =
    ap (λ (x : Bool). cond (x && (mark.painter == painter)) 1 0) (eq_yes mark.shift shift s) ∙ ap (λ (x : Bool). cond (true && x) 1 0) (eq_yes mark.painter painter p)

other_none : (mark : Mark) (shift painter : ℕ) → (mark.shift ≢ shift) ⊎ (mark.painter ≢ painter) → one_if mark shift painter ≡ 0
other_none mark shift painter (inl s) = ap (λ (x : Bool). cond (x && (mark.painter == painter)) 1 0) (eq_no mark.shift shift s)
other_none mark shift painter (inr p) =
    ap (λ (x : Bool). cond ((mark.shift == shift) && x) 1 0) (eq_no mark.painter painter p) ∙ ap (λ (x : Bool). cond x 1 0) (and_none (mark.shift == shift))

pub counts_more : (session : Session) (counts : List ℕ) (mark : Mark) (n : ℕ) → IsMarkOf session mark → Fits session → length counts ≡ 64 * length session.shifts
    → n ≡ slice_index counts (64 * mark.shift + mark.painter)
    → (marks : List Mark) → AreCounts session marks counts → AreCounts session (marks ++ mark ∷ []) (set counts (64 * mark.shift + mark.painter) (n + 1))
counts_more session counts mark n of fits long is marks are = record {
  long = length-set counts (64 * mark.shift + mark.painter) (n + 1) ∙ long;
  each = λ s p hs hp. by s p hs hp (cases_eq (64 * mark.shift + mark.painter) (64 * s + p));
} where
  small : mark.painter < 64
  small = omega (arith, of.painter, few_painters session mark.shift fits of.shift)

  by : (s p : ℕ) → s < length session.shifts → p < 64 → (64 * mark.shift + mark.painter ≡ 64 * s + p) ⊎ (64 * mark.shift + mark.painter ≢ 64 * s + p)
      → slice_index (set counts (64 * mark.shift + mark.painter) (n + 1)) (64 * s + p) ≡ marked s p (marks ++ mark ∷ [])
  by s p hs hp (inl e) =
      let at_shift : mark.shift ≡ s = omega (arith, e, hp, small) in
      let at_painter : mark.painter ≡ p = omega (arith, e, hp, small) in
      ap (slice_index (set counts (64 * mark.shift + mark.painter) (n + 1))) (sym e) ∙ get_or-set_same counts (64 * mark.shift + mark.painter) (n + 1) 0 (omega (arith, long, of.shift, small))
      ∙ omega (arith, is, ap (slice_index counts) e, are.each s p hs hp, marked-push marks mark s p, same_one mark s p at_shift at_painter)
  by s p hs hp (inr e) =
      get_or-set_other counts (64 * mark.shift + mark.painter) (64 * s + p) (n + 1) 0 (λ same. e (sym same))
      ∙ omega (arith, are.each s p hs hp, marked-push marks mark s p, other_none mark s p (apart s p hp e (cases_eq mark.shift s)))
    where
      apart : (s p : ℕ) → p < 64 → (64 * mark.shift + mark.painter ≢ 64 * s + p) → (mark.shift ≡ s) ⊎ (mark.shift ≢ s) → (mark.shift ≢ s) ⊎ (mark.painter ≢ p)
      apart s p hp e (inl same) = inr (λ at. e (omega (arith, same, at)))
      apart s p hp e (inr other) = inl other

pub none_counted : (session : Session) (n : ℕ) → n ≡ 64 * length session.shifts → AreCounts session [] (replicate n 0)
none_counted session n is = record {
  long = length-replicate {A = ℕ} n 0 ∙ is;
  each = λ s p hs hp. get_or-replicate n (64 * s + p) 0 0 (omega (arith, is, hs, hp));
}

-- the starts up to a shift
pub record StartsTo (session : Session) (starts : List ℕ) (end : ℕ) : Type 0 where
  pub long : length starts ≡ end
  pub each : (shift : ℕ) → shift < end → slice_index starts shift ≡ acts_below session shift

pub starts_more : (session : Session) (starts : List ℕ) (end n : ℕ) → n ≡ acts_below session end → StartsTo session starts end → StartsTo session (starts ++ n ∷ []) (end + 1)
starts_more session starts end n is so_far = record {
  long = length-push starts ∙ ap (λ (k : ℕ). k + 1) so_far.long;
  each = λ shift h. by shift h (cases_lt shift end);
} where
  length-push : (l : List ℕ) → length (l ++ n ∷ []) ≡ length l + 1
  length-push [] = omega arith
  length-push (x ∷ l) = omega (arith, length-push l)

  by : (shift : ℕ) → shift < end + 1 → (shift < end) ⊎ (end ≤ shift) → slice_index (starts ++ n ∷ []) shift ≡ acts_below session shift
  by shift h (inl low) = get_or_append_left starts (n ∷ []) 0 shift (omega (arith, low, so_far.long)) ∙ so_far.each shift low
  by shift h (inr high) =
      let same : shift ≡ length starts + 0 = omega (arith, h, high, so_far.long) in
      ap (slice_index (starts ++ n ∷ [])) same ∙ get_or-append-add starts (n ∷ []) 0 0 ∙ is ∙ ap (acts_below session) (let e : end ≡ shift = omega (arith, h, high) in e)

pub lacks_below : (session : Session) (shift n : ℕ) → lacks_acts session shift n ≡ true → n < acts_below session (shift + 1)
unfolding lacks_acts
lacks_below session shift n e = by (cases_lt n (acts_below session (shift + 1))) where
  clash : (x y : Bool) → x ≡ false → (x && y) ≡ true → ⊥
  clash false y f e = absurd cc
  clash true y f e = absurd cc

  by : (n < acts_below session (shift + 1)) ⊎ (acts_below session (shift + 1) ≤ n) → n < acts_below session (shift + 1)
  by (inl low) = low
  by (inr high) = absurd (clash (nat_lt n (acts_below session (shift + 1))) (not (nat_lt n (acts_below session shift))) (lt_no n (acts_below session (shift + 1)) high) e)

pub lacks_there : (session : Session) (shift n start end : ℕ) → start ≡ acts_below session shift → end ≡ acts_below session (shift + 1) → n < end → not (nat_lt n start) ≡ lacks_acts session shift n
unfolding lacks_acts
lacks_there session shift n start end s e low =
    ap (λ (k : ℕ). not (nat_lt n k)) s
    ∙ sym (ap (λ (b : Bool). b && not (nat_lt n (acts_below session shift))) (lt_yes n (acts_below session (shift + 1)) (subst (λ (k : ℕ). n < k) e low)))

pub lacks_none : (session : Session) (shift n end : ℕ) → end ≡ acts_below session (shift + 1) → end ≤ n → nat_lt n end ≡ lacks_acts session shift n
unfolding lacks_acts
lacks_none session shift n end e high =
    lt_no n end high
    ∙ sym (ap (λ (b : Bool). b && not (nat_lt n (acts_below session shift))) (lt_no n (acts_below session (shift + 1)) (subst (λ (k : ℕ). k ≤ n) e high)))

module _ (session : Session) (before : List Mark) (mark : Mark) where
  pub next_there : (n acts : ℕ) → n ≡ marked mark.shift mark.painter before → acts ≡ length (acts_of_painter (plan_of session mark.shift) mark.painter) → n < acts
      → (mark.number == n + 1) ≡ is_next_of_painter session before mark
  unfolding is_next_of_painter
  next_there n acts is are low =
      ap (λ (k : ℕ). mark.number == k + 1) is
      ∙ sym (ap (λ (b : Bool). b && (mark.number == marked mark.shift mark.painter before + 1))
      (lt_yes (marked mark.shift mark.painter before) (length (acts_of_painter (plan_of session mark.shift) mark.painter)) (omega (arith, is, are, low))))

  pub next_none : (n acts : ℕ) → n ≡ marked mark.shift mark.painter before → acts ≡ length (acts_of_painter (plan_of session mark.shift) mark.painter) → acts ≤ n
      → nat_lt n acts ≡ is_next_of_painter session before mark
  unfolding is_next_of_painter
  next_none n acts is are high =
      lt_no n acts high
      ∙ sym (ap (λ (b : Bool). b && (mark.number == marked mark.shift mark.painter before + 1))
      (lt_no (marked mark.shift mark.painter before) (length (acts_of_painter (plan_of session mark.shift) mark.painter)) (omega (arith, is, are, high))))

  pub no_painter : length (plan_of session mark.shift).painters ≤ mark.painter → false ≡ is_next_of_painter session before mark
  unfolding is_next_of_painter
  no_painter past =
      sym (ap (λ (b : Bool). b && (mark.number == marked mark.shift mark.painter before + 1))
      (lt_no (marked mark.shift mark.painter before) (length (acts_of_painter (plan_of session mark.shift) mark.painter))
      (omega (arith, ap length (get_or_past (plan_of session mark.shift).painters mark.painter [] past)))))

  pub no_shift : length session.shifts ≤ mark.shift → false ≡ is_next session before mark
  no_shift past =
      sym (ap (λ (b : Bool). lacks_acts session mark.shift (length before) && b) (sym (no_painter (omega (arith, ap (λ (p : ShiftPlan). length p.painters) (get_or_past session.shifts mark.shift (record { repeats = []; painters = [] }) past)))))
      ∙ and_none (lacks_acts session mark.shift (length before)))

-- a count is small
pub small_count : (session : Session) (marks : List Mark) (counts : List ℕ) (mark : Mark) → Fits session → IsMarkOf session mark → AreCounts session marks counts → length marks ≤ acts_in session.shifts
    → slice_index counts (64 * mark.shift + mark.painter) < 2 ^ 32 - 1
small_count session marks counts mark fits of are few =
    omega (
      arith,
      are.each mark.shift mark.painter of.shift (omega (arith, of.painter, few_painters session mark.shift fits of.shift)),
      few,
      fits.acts,
      count_by-le-length (λ (x : Mark). (x.shift == mark.shift) && (x.painter == mark.painter)) marks,
    )
