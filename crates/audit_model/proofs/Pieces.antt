-- Lines and what they begin with.
use Rattle.std.proofs.Common.{◌≡◌, ◌≢◌, inl, inr, ◌+◌, ◌<◌, ◌==◌, ◌&&◌, not, ℕ, zero, suc, Bool, true, false, cond, List, [], ◌∷◌, ◌++◌, get_or, refl, sym, ap, subst, ◌∙◌, append_assoc, append-nil, arith}
use Rattle.std.proofs.lemmas.Bool.Decides.{nat_tests}
use Rattle.std.proofs.lemmas.Fmt.{decimal_injective}
use Rattle.std.specs.Fmt.{decimal, digit_glyph, digits, digits_onto}
use Rattle.std.specs.Prelude.{nat_lt, ◌%◌, ◌/◌, ◌^◌, All}
use Rattle.std.proofs.lemmas.List.Elements.{All-append}
use Rattle.shift_model.proofs.lemmas.Lists.{All_mono, All_tail}
use Rattle.audit_model.specs.Audits.{Begins}
use Rattle.audit_model.specs.Pieces.{IsDigit, IsLine, IsPiece, Plain}

digit_of : (d : ℕ) → d < 10 → IsDigit (digit_glyph false d)
digit_of d h = subst IsDigit (sym (ap (λ b. cond b (48 + d) (cond false (55 + d) (87 + d))) (let e : nat_lt d 10 ≡ true = grind (arith, nat_tests) in e))) (omega arith, omega arith)

more_digits : (x : ℕ) (acc : List ℕ) → IsDigit x → All IsDigit acc → All IsDigit (x ∷ acc)
more_digits x acc h all zero d l = h
more_digits x acc h all (suc k) d l = all k d (omega arith)

cond_all : (b : Bool) (xs ys : List ℕ) → All IsDigit xs → All IsDigit ys → All IsDigit (cond b xs ys)
cond_all true xs ys a b = a
cond_all false xs ys a b = b

digits_all : (k n : ℕ) (acc : List ℕ) → All IsDigit acc → All IsDigit (digits_onto k 10 false n acc)
digits_all zero n acc all = all
digits_all (suc k) n acc all =
    let here = more_digits (digit_glyph false (n % 10)) acc (digit_of (n % 10) (omega arith)) all in
    cond_all (n / 10 == 0) (digit_glyph false (n % 10) ∷ acc) (digits_onto k 10 false (n / 10) (digit_glyph false (n % 10) ∷ acc)) here (digits_all k (n / 10) (digit_glyph false (n % 10) ∷ acc) here)

pub decimal_digits : (n : ℕ) → All IsDigit (decimal n)
unfolding digits
decimal_digits n = digits_all 64 n [] (λ k d h. absurd (omega arith))

pub decimal_plain : (n : ℕ) → Plain (decimal n)
decimal_plain n = All_mono IsDigit (λ b. b ≢ 10) (decimal n) (λ b h e. omega (arith, h.0, e)) (decimal_digits n)

-- texts without a line feed, by a test
abbrev pub is_plain : List ℕ → Bool
is_plain [] = true
is_plain (b ∷ bs) = not (b == 10) && is_plain bs

and_left : (a b : Bool) → (a && b) ≡ true → (a ≡ true) × (b ≡ true)
and_left true true h = (refl, refl)
and_left true false h = (refl, h)
and_left false b h = absurd (let e : ◌≡◌ {A = ℕ} 0 1 = ap (λ x. cond x 1 0) h in omega (arith, e))

not_feed : (b : ℕ) → not (b == 10) ≡ true → b ≢ 10
not_feed b h e = grind (arith, nat_tests)

pub more_plain : (x : ℕ) (xs : List ℕ) → x ≢ 10 → Plain xs → Plain (x ∷ xs)
more_plain x xs h all zero d l = h
more_plain x xs h all (suc k) d l = all k d (omega arith)

pub plain_by : (xs : List ℕ) → is_plain xs ≡ true → Plain xs
plain_by [] h = λ k d l. absurd (omega arith)
plain_by (x ∷ xs) h = more_plain x xs (not_feed x ((and_left (not (x == 10)) (is_plain xs) h).0)) (plain_by xs ((and_left (not (x == 10)) (is_plain xs) h).1))

pub plain_join : (xs ys : List ℕ) → Plain xs → Plain ys → Plain (xs ++ ys)
plain_join xs ys a b = All-append (λ b. b ≢ 10) xs ys a b

abbrev pub tail_of : List ℕ → List ℕ
tail_of [] = []
tail_of (x ∷ xs) = xs

pub cancel : (xs ys zs : List ℕ) → xs ++ ys ≡ xs ++ zs → ys ≡ zs
cancel [] ys zs e = e
cancel (x ∷ xs) ys zs e = cancel xs ys zs (ap tail_of e)

-- two texts without a byte, which it ends
stops : (c : ℕ) (xs ys us vs : List ℕ) → All (λ b. b ≢ c) xs → All (λ b. b ≢ c) ys → xs ++ c ∷ us ≡ ys ++ c ∷ vs → xs ≡ ys
stops c [] [] us vs a b e = refl
stops c [] (y ∷ ys) us vs a b e = absurd (b 0 0 (omega arith) (sym (ap (λ l. get_or l 0 0) e)))
stops c (x ∷ xs) [] us vs a b e = absurd (a 0 0 (omega arith) (ap (λ l. get_or l 0 0) e))
stops c (x ∷ xs) (y ∷ ys) us vs a b e =
    ap (λ h. h ∷ xs) (ap (λ l. get_or l 0 0) e) ∙ ap (λ l. y ∷ l) (stops c xs ys us vs (All_tail (λ b. b ≢ c) x xs a) (All_tail (λ b. b ≢ c) y ys b) (ap tail_of e))

pub number_same : (front us vs : List ℕ) (m n : ℕ) → m < 2 ^ 64 → n < 2 ^ 64 → (front ++ decimal m) ++ 32 ∷ us ≡ (front ++ decimal n) ++ 32 ∷ vs → m ≡ n
number_same front us vs m n a b e = decimal_injective m n a b (stops 32 (decimal m) (decimal n) us vs (spaceless m) (spaceless n)
    (cancel front (decimal m ++ 32 ∷ us) (decimal n ++ 32 ∷ vs) (sym (append_assoc front (decimal m) (32 ∷ us)) ∙ e ∙ append_assoc front (decimal n) (32 ∷ vs)))) where
      spaceless : (n : ℕ) → All (λ b. b ≢ 32) (decimal n)
      spaceless n = All_mono IsDigit (λ b. b ≢ 32) (decimal n) (λ b h e. omega (arith, h.0, e)) (decimal_digits n)

-- a number of two lines that begin alike, with a blank behind it
pub number_in : (front word us vs : List ℕ) (m n : ℕ) → m < 2 ^ 64 → n < 2 ^ 64 → (front ++ (word ++ decimal m)) ++ 32 ∷ us ≡ (front ++ (word ++ decimal n)) ++ 32 ∷ vs → m ≡ n
number_in front word us vs m n a b e = number_same (front ++ word) us vs m n a b
    (ap (λ l. l ++ 32 ∷ us) (append_assoc front word (decimal m)) ∙ e ∙ sym (ap (λ l. l ++ 32 ∷ vs) (append_assoc front word (decimal n))))

-- two lines that texts begin with are one
pub line_same : (k l us vs : List ℕ) → IsLine k → IsLine l → k ++ us ≡ l ++ vs → k ≡ l
line_same k l us vs (f, a, p) (g, b, q) e =
    a ∙ ap (λ x. x ++ 10 ∷ []) (stops 10 f g us vs p q (sym (append_assoc f (10 ∷ []) us) ∙ ap (λ x. x ++ us) (sym a) ∙ e ∙ ap (λ x. x ++ vs) b ∙ append_assoc g (10 ∷ []) vs)) ∙ sym b

plain_begins : (p f us vs : List ℕ) → Plain p → p ++ us ≡ f ++ 10 ∷ vs → Begins p f
plain_begins [] f us vs h e = (f, refl)
plain_begins (x ∷ p) [] us vs h e = absurd (h 0 0 (omega arith) (ap (λ l. get_or l 0 0) e))
plain_begins (x ∷ p) (y ∷ f) us vs h e =
    let more = plain_begins p f us vs (All_tail (λ b. b ≢ 10) x p h) (ap tail_of e) in
    (more.0, ap (λ b. b ∷ f) (sym (ap (λ l. get_or l 0 0) e)) ∙ ap (λ l. x ∷ l) more.1)

-- a piece of a line that stands where a line stands begins it
pub piece_begins : (b l us vs : List ℕ) → IsPiece b → IsLine l → b ++ us ≡ l ++ vs → Begins b l
piece_begins b l us vs (inl k) h e = ([], sym (line_same b l us vs k h e) ∙ sym (append-nil b))
piece_begins b l us vs (inr p) (f, is, q) e =
    let more = plain_begins b f us vs p (e ∙ ap (λ x. x ++ vs) is ∙ append_assoc f (10 ∷ []) vs) in
    (more.0 ++ 10 ∷ [], is ∙ ap (λ x. x ++ 10 ∷ []) more.1 ∙ append_assoc b more.0 (10 ∷ []))
