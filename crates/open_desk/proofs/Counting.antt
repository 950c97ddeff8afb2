-- Sums over the numbers below n, and the entries of each caller.
use Rattle.std.proofs.Common.{◌≡◌, ◌≢◌, ◌+◌, ◌*◌, ◌<◌, ◌≤◌, ◌==◌, ℕ, zero, suc, Bool, true, false, cond, List, [], ◌∷◌, ◌++◌, Some, None, length, get_or, refl, sym, ap, subst, ◌∙◌, arith, ⊎_elim}
use Rattle.std.specs.Prelude.{slice_get, sum_by, count_by}
use Rattle.std.proofs.Math.Nat.{mul-suc}
use Rattle.std.proofs.lemmas.Bool.{cases_eq, cases_lt, eq-eqb, ne_eqb}
use Rattle.std.proofs.lemmas.List.Sums.{sum_by-append, sum_by-cons}
use Rattle.mill_base.specs.Lines.{line_by}
use Rattle.mill_base.proofs.lemmas.Lines.{line_is, sum_by-line_by_more}
use Rattle.version_journal.specs.declared.entry.Entry.{Entry}
use Rattle.open_desk.specs.Histories.{count_of, is_of}

abbrev pub sum_below : (ℕ → ℕ) → ℕ → ℕ
sum_below f zero = 0
sum_below f (suc n) = sum_below f n + f n

sum_none : (n : ℕ) → sum_below (λ i. 0) n ≡ 0
sum_none zero = refl
sum_none (suc n) = omega (arith, sum_none n)

sum_alike : (f g : ℕ → ℕ) (n : ℕ) → ((i : ℕ) → f i ≡ g i) → sum_below f n ≡ sum_below g n
sum_alike f g zero each = refl
sum_alike f g (suc n) each = omega (arith, sum_alike f g n each, each n)

sum_plus : (f g : ℕ → ℕ) (n : ℕ) → sum_below (λ i. f i + g i) n ≡ sum_below f n + sum_below g n
sum_plus f g zero = refl
sum_plus f g (suc n) = omega (arith, sum_plus f g n)

-- one where the number is p
abbrev at_p : ℕ → ℕ → ℕ
at_p p i = cond {A = ℕ} (p == i) 1 0

at_here : (p i : ℕ) → p ≡ i → at_p p i ≡ 1
at_here p i same = ap (λ b. cond {A = ℕ} b 1 0) (eq-eqb p i same)

at_other : (p i : ℕ) → (p ≡ i → ⊥) → at_p p i ≡ 0
at_other p i apart = ap (λ b. cond {A = ℕ} b 1 0) (ne_eqb p i apart)

sum_past : (p n : ℕ) → n ≤ p → sum_below (at_p p) n ≡ 0
sum_past p zero h = refl
sum_past p (suc n) h = omega (arith, sum_past p n (omega (arith, h)), at_other p n (λ same. omega (arith, same, h)))

sum_at : (p n : ℕ) → p < n → sum_below (at_p p) n ≡ 1
sum_at p zero h = absurd (omega (arith, h))
sum_at p (suc n) h = ⊎_elim
    (λ (low : p < n). omega (arith, sum_at p n low, at_other p n (λ same. omega (arith, same, low))))
    (λ (high : n ≤ p). omega (arith, sum_past p n high, at_here p n (omega (arith, h, high))))
    (cases_lt p n)

-- the entries of all callers are all entries
pub shared : (callers : ℕ) (entries : List Entry) → ((k : ℕ) (e : Entry) → slice_get entries k ≡ Some e → e.painter < callers)
    → sum_below (λ i. count_of i entries) callers ≡ length entries
shared callers [] each = sum_none callers
shared callers (e ∷ es) each =
    sum_alike (λ i. count_of i (e ∷ es)) (λ i. at_p e.painter i + count_of i es) callers (λ i. sum_by-cons (λ x. cond {A = ℕ} (is_of i x) 1 0) e es)
    ∙ sum_plus (at_p e.painter) (λ i. count_of i es) callers
    ∙ (let one = sum_at e.painter callers (each 0 e refl) in
    let rest = shared callers es (λ k x is. each (suc k) x is) in
    let both : sum_below (at_p e.painter) callers + sum_below (λ i. count_of i es) callers ≡ suc (length es) = omega (arith, one, rest) in
    both)

-- where no number gives more than `most` and one gives less, the sum is less than all could give
sum_most : (f : ℕ → ℕ) (most n : ℕ) → ((i : ℕ) → f i ≤ most) → sum_below f n ≤ most * n
sum_most f most zero few = omega arith
sum_most f most (suc n) few = omega (arith, sum_most f most n few, few n, mul-suc most n)

pub sum_less : (f : ℕ → ℕ) (most n c : ℕ) → ((i : ℕ) → f i ≤ most) → c < n → f c < most → sum_below f n < most * n
sum_less f most zero c few low less = absurd (omega (arith, low))
sum_less f most (suc n) c few low less = ⊎_elim
    (λ (h : c < n). omega (arith, sum_less f most n c few h less, few n, mul-suc most n))
    (λ (h : n ≤ c).
    let here : f n < most = subst (λ k. f k < most) (let e : c ≡ n = omega (arith, h, low) in e) less in
    omega (arith, sum_most f most n few, here, mul-suc most n))
    (cases_lt c n)

-- numbers that are each at most others, with the same sum, are the others
sum_le : (f g : ℕ → ℕ) (n : ℕ) → ((i : ℕ) → i < n → f i ≤ g i) → sum_below f n ≤ sum_below g n
sum_le f g zero each = omega arith
sum_le f g (suc n) each = omega (arith, sum_le f g n (λ i h. each i (omega (arith, h))), each n (omega arith))

pub sum_same : (f g : ℕ → ℕ) (n : ℕ) → ((i : ℕ) → i < n → f i ≤ g i) → sum_below f n ≡ sum_below g n → (i : ℕ) → i < n → f i ≡ g i
sum_same f g zero each same i h = absurd (omega (arith, h))
sum_same f g (suc n) each same i h =
    let front = sum_le f g n (λ j below. each j (omega (arith, below))) in
    let last = each n (omega arith) in
    let same_front : sum_below f n ≡ sum_below g n = omega (arith, front, last, same) in
    let same_last : f n ≡ g n = omega (arith, front, last, same) in
    ⊎_elim
    (λ (low : i < n). sum_same f g n (λ j below. each j (omega (arith, below))) same_front i low)
    (λ (high : n ≤ i). subst (λ k. f k ≡ g k) (let e : n ≡ i = omega (arith, h, high) in e) same_last)
    (cases_lt i n)

sum_line : {A : Type 0} (g : A → ℕ) (cell : ℕ → A) (n : ℕ) → sum_by g (line_by n cell) ≡ sum_below (λ i. g (cell i)) n
unfolding line_by
sum_line g cell zero = refl
sum_line g cell (suc n) =
    let e : suc n ≡ n + 1 = omega arith in
    ap (λ k. sum_by g (line_by k cell)) e ∙ sum_by-line_by_more g n cell ∙ ap (λ k. k + g (cell n)) (sum_line g cell n)

pub sum_list : {A : Type 0} (d : A) (g : A → ℕ) (xs : List A) (n : ℕ) → length xs ≡ n → sum_by g xs ≡ sum_below (λ i. g (get_or xs i d)) n
sum_list d g xs n long = ap (sum_by g) (line_is d xs n (λ i. get_or xs i d) long (λ k h. refl)) ∙ sum_line g (λ i. get_or xs i d) n

-- one entry more
pub count_more : (caller : ℕ) (entries : List Entry) (e : Entry) → count_of caller (entries ++ e ∷ []) ≡ count_of caller entries + at_p e.painter caller
count_more caller entries e =
    sum_by-append (λ x. cond {A = ℕ} (is_of caller x) 1 0) entries (e ∷ [])
    ∙ (let same : count_of caller entries + (0 + at_p e.painter caller) ≡ count_of caller entries + at_p e.painter caller = omega arith in same)

pub count_here : (caller : ℕ) (entries : List Entry) (e : Entry) → e.painter ≡ caller → count_of caller (entries ++ e ∷ []) ≡ count_of caller entries + 1
count_here caller entries e same = count_more caller entries e ∙ ap (λ n. count_of caller entries + n) (at_here e.painter caller same)

pub count_other : (caller : ℕ) (entries : List Entry) (e : Entry) → (e.painter ≡ caller → ⊥) → count_of caller (entries ++ e ∷ []) ≡ count_of caller entries
count_other caller entries e apart =
    count_more caller entries e ∙ ap (λ n. count_of caller entries + n) (at_other e.painter caller apart)
    ∙ (let same : count_of caller entries + 0 ≡ count_of caller entries = omega arith in same)
