-- What is put together of passes, one after another.
use Rattle.std.proofs.Common.{◌≡◌, ◌+◌, ◌<◌, ℕ, List, [], ◌∷◌, ◌++◌, length, length-append, append_assoc, refl, sym, ap, ◌∙◌, arith}
use Rattle.std.specs.Prelude.{sum_by}
use Rattle.std.proofs.lemmas.List.{length-map}
use Rattle.std.proofs.lemmas.List.Sums.{sum_by-cons}
use Rattle.open_desk.specs.Passes.{PassValue, told}
use Rattle.open_desk.specs.declared.receipt.Receipt.{Receipt}

-- the lists of the passes so far and those of the rest are all lists
pub gathered_more : (lists lists' : List (List Receipt)) (r : List Receipt) (pass : PassValue) (rest rest' all : List PassValue) → lists' ≡ lists ++ r ∷ [] → r ≡ pass.receipts → rest ≡ pass ∷ rest'
    → lists ++ told rest ≡ told all → lists' ++ told rest' ≡ told all
gathered_more lists lists' r pass rest rest' all pushed of_pass next so_far =
    ap (λ l. l ++ told rest') pushed ∙ append_assoc lists (r ∷ []) (told rest') ∙ ap (λ x. lists ++ (x ∷ told rest')) of_pass ∙ ap (λ (l : List PassValue). lists ++ told l) (sym next) ∙ so_far

pub amount_more : (amount amount' share : ℕ) (r : List Receipt) (pass : PassValue) (rest rest' : List PassValue) (total : ℕ) → amount' ≡ amount + share → share ≡ length r → r ≡ pass.receipts → rest ≡ pass ∷ rest'
    → amount + sum_by length (told rest) ≡ total → amount' + sum_by length (told rest') ≡ total
amount_more amount amount' share r pass rest rest' total merged counted of_pass next so_far =
    let parts : sum_by length (told rest) ≡ length pass.receipts + sum_by length (told rest') = ap (λ (l : List PassValue). sum_by length (told l)) next ∙ sum_by-cons length pass.receipts (told rest') in
    let of_share : share ≡ length pass.receipts = counted ∙ ap length of_pass in
    omega (arith, merged, of_share, parts, so_far)

pub parts_more : (parts parts' share : ℕ) (pass : PassValue) (rest rest' : List PassValue) (total : ℕ) → parts' ≡ parts + share → share ≡ 1 → rest ≡ pass ∷ rest' → parts + length rest ≡ total
    → parts' + length rest' ≡ total
parts_more parts parts' share pass rest rest' total merged one next so_far =
    let long : length rest ≡ length rest' + 1 = ap length next ∙ (let e : length (pass ∷ rest') ≡ length rest' + 1 = omega arith in e) in
    omega (arith, merged, one, long, so_far)

pub room_left : (lists : List (List Receipt)) (pass : PassValue) (rest rest' all : List PassValue) → rest ≡ pass ∷ rest' → lists ++ told rest ≡ told all → length lists < length all
room_left lists pass rest rest' all next so_far =
    let sum : length lists + length (told rest) ≡ length (told all) = sym (length-append lists (told rest)) ∙ ap length so_far in
    let of_rest : length (told rest) ≡ length rest = length-map rest (λ (p : PassValue). p.receipts) in
    let of_all : length (told all) ≡ length all = length-map all (λ (p : PassValue). p.receipts) in
    let long : length rest ≡ length rest' + 1 = ap length next ∙ (let e : length (pass ∷ rest') ≡ length rest' + 1 = omega arith in e) in
    omega (arith, sum, of_rest, of_all, long)

-- a list of no length is empty
pub none_left : {A : Type 0} (xs : List A) → length xs ≡ 0 → xs ≡ []
none_left [] none = refl
none_left (x ∷ xs) none = absurd (omega (arith, none))
