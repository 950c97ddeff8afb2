-- The first items of a list that grows, as many as are kept at the most.
use Rattle.std.proofs.Common.{◌≡◌, ◌+◌, ◌<◌, ◌≤◌, ℕ, zero, suc, Bool, true, false, List, [], ◌∷◌, ◌++◌, length, map, filter, take, get_or, slice_get, flat_map, refl, sym, ap, ◌∙◌, append-nil, append_assoc, length-append, arith}
use Rattle.std.specs.List.{range_with_len}
use Rattle.std.proofs.lemmas.List.{take_all, take-append-le, length-take, map-append}
use Rattle.std.proofs.lemmas.Bool.{cond-true, cond-false}
use Rattle.std.proofs.lemmas.List.Elements.{filter_more}
use Rattle.std.proofs.lemmas.Grind.{flat_map-append}
use Rattle.mill_base.proofs.lemmas.Ranges.{range_more}

-- what was cut off does not come back
pub take_again : {X : Type 0} (n : ℕ) (xs ys : List X) → take n (take n xs ++ ys) ≡ take n (xs ++ ys)
take_again zero xs ys = refl
take_again (suc n) [] ys = refl
take_again (suc n) (x ∷ xs) ys = ap (λ l. x ∷ l) (take_again n xs ys)

-- at the start all items are kept
pub kept_all : {X : Type 0} (n : ℕ) (xs : List X) → length xs ≤ n → xs ≡ take n (xs ++ [])
kept_all n xs few = sym (ap (take n) (append-nil xs) ∙ take_all n xs few)

-- one item where there is room, and where there is none
pub kept_room : {X : Type 0} (n : ℕ) (xs : List X) (x : X) → length xs < n → xs ++ x ∷ [] ≡ take n (xs ++ x ∷ [])
kept_room n xs x room = let long = length-append xs (x ∷ []) in sym (take_all n (xs ++ x ∷ []) (omega (arith, long, room)))

pub kept_full : {X : Type 0} (n : ℕ) (xs : List X) (x : X) → length xs ≤ n → n ≤ length xs → xs ≡ take n (xs ++ x ∷ [])
kept_full n xs x few many = sym (take-append-le n xs (x ∷ []) many ∙ take_all n xs few)

-- more items behind those that were kept
pub kept_more : {X : Type 0} (n : ℕ) (before old new now next : List X) → now ≡ take n (before ++ old) → next ≡ take n (now ++ new) → next ≡ take n (before ++ (old ++ new))
kept_more n before old new now next first then =
    then ∙ ap (λ xs. take n (xs ++ new)) first ∙ take_again n (before ++ old) new ∙ ap (take n) (append_assoc before old new)

-- no more are kept than there may be
pub kept_few : {X : Type 0} (n : ℕ) (xs now : List X) → now ≡ take n xs → length now ≤ n
kept_few n xs now is = let long = ap length is ∙ length-take n xs in omega (arith, long)

-- the items of one more number
pub pieces_more : {X : Type 0} (f : ℕ → List X) (k : ℕ) → flat_map f (range_with_len 0 (k + 1)) ≡ flat_map f (range_with_len 0 k) ++ f k
pieces_more f k =
    ap (flat_map f) (range_more 0 k k (omega arith)) ∙ flat_map-append f (range_with_len 0 k) (k ∷ [])
    ∙ ap (λ xs. flat_map f (range_with_len 0 k) ++ xs) (append-nil (f k))

pub kept_piece : {X : Type 0} (n : ℕ) (f : ℕ → List X) (k : ℕ) (before piece now next : List X) → now ≡ take n (before ++ flat_map f (range_with_len 0 k))
    → next ≡ take n (now ++ piece) → piece ≡ f k → next ≡ take n (before ++ flat_map f (range_with_len 0 (k + 1)))
kept_piece n f k before piece now next first then is =
    kept_more n before (flat_map f (range_with_len 0 k)) piece now next first then
    ∙ ap (λ xs. take n (before ++ (flat_map f (range_with_len 0 k) ++ xs))) is ∙ ap (λ xs. take n (before ++ xs)) (sym (pieces_more f k))

pub count_piece : {X : Type 0} (f : ℕ → List X) (k a b : ℕ) (piece : List X) → a ≡ length (flat_map f (range_with_len 0 k)) → b ≡ length piece → piece ≡ f k
    → a + b ≡ length (flat_map f (range_with_len 0 (k + 1)))
count_piece f k a b piece first then is =
    let more = ap length (pieces_more f k) ∙ length-append (flat_map f (range_with_len 0 k)) (f k) in
    let here = ap length is in
    omega (arith, first, then, more, here)

-- one more item that passes, or not
pub passed_more : {X : Type 0} (p : X → Bool) (xs : List X) (i : ℕ) (d : X) → i < length xs → filter p (take (i + 1) xs) ≡ filter p (take i xs) ++ filter p (get_or xs i d ∷ [])
passed_more p xs i d below = filter_more p xs i d below

pub kept_passed : {X Y : Type 0} (n : ℕ) (on : X → Y) (p : X → Bool) (xs : List X) (i : ℕ) (d : X) (before now next : List Y) → i < length xs
    → now ≡ take n (before ++ map on (filter p (take i xs))) → next ≡ take n (now ++ map on (filter p (get_or xs i d ∷ []))) → next ≡ take n (before ++ map on (filter p (take (i + 1) xs)))
kept_passed n on p xs i d before now next below first then =
    kept_more n before (map on (filter p (take i xs))) (map on (filter p (get_or xs i d ∷ []))) now next first then
    ∙ ap (λ ys. take n (before ++ ys))
    (sym (map-append on (filter p (take i xs)) (filter p (get_or xs i d ∷ []))) ∙ ap (map on) (sym (passed_more p xs i d below)))

pub count_passed : {X : Type 0} (p : X → Bool) (xs : List X) (i : ℕ) (d : X) (a b : ℕ) → i < length xs
    → a ≡ length (filter p (take i xs)) → b ≡ length (filter p (get_or xs i d ∷ [])) → a + b ≡ length (filter p (take (i + 1) xs))
count_passed p xs i d a b below first then =
    let more = ap length (passed_more p xs i d below) ∙ length-append (filter p (take i xs)) (filter p (get_or xs i d ∷ [])) in
    omega (arith, first, then, more)

-- one item alone
pub one_passes : {X : Type 0} (p : X → Bool) (x : X) → p x ≡ true → filter p (x ∷ []) ≡ x ∷ []
one_passes p x passes = cond-true (p x) (x ∷ []) [] passes

pub one_fails : {X : Type 0} (p : X → Bool) (x : X) → p x ≡ false → filter p (x ∷ []) ≡ []
one_fails p x fails = cond-false (p x) (x ∷ []) [] fails

-- the first item is kept
pub first_kept : {X : Type 0} (n : ℕ) (xs : List X) → 0 < n → slice_get (take n xs) 0 ≡ slice_get xs 0
first_kept zero xs some = absurd (omega (arith, some))
first_kept (suc n) [] some = refl
first_kept (suc n) (x ∷ xs) some = refl

pub from_none : {X : Type 0} (n : ℕ) (old xs now : List X) → old ≡ [] → now ≡ take n (old ++ xs) → now ≡ take n xs
from_none n old xs now none is = is ∙ ap (λ ys. take n (ys ++ xs)) none
