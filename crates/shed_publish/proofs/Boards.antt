-- The board after an operation.
use Rattle.std.proofs.Common.{◌≤◌, min, ⊎_elim, drop, ◌<◌, suc, get_or, length, ◌-◌, ◌≡◌, ℕ, List, [], ◌∷◌, ◌++◌, take, map, ap, sym, subst, ◌∙◌, arith}
use Rattle.std.proofs.Math.ListN.{drop_of_length-le}
use Rattle.std.proofs.lemmas.Bool.{cases_lt}
use Rattle.std.proofs.lemmas.List.{drop-map, get_or-map, length-drop, length-map, map-append, take-map, take_all}
use Rattle.std.proofs.Math.Seq.{take-suc}

module _ {A B : Type 0} (f : A → B) where
  pub put : (n : ℕ) (xs : List A) (x : A) (y : B) → f x ≡ y → map f (take n xs ++ x ∷ []) ≡ take n (map f xs) ++ y ∷ []
  put n xs x y e = rw (map-append f (take n xs) (x ∷ []), take-map f n xs) (ap (λ z. map f (take n xs) ++ z ∷ []) e)

  -- a list whose last element is x ends, under f, with f x
  pub last_mapped : (xs : List A) (x : A) (y : B) → 0 < length xs → x ≡ get_or xs (length xs - 1) x → f x ≡ y → (before : List B) × (map f xs ≡ before ++ y ∷ [])
  last_mapped xs x y some last same =
      let n = length xs - 1 in
      let whole : take (suc n) xs ≡ xs = take_all (suc n) xs (omega arith) in
      let ends : xs ≡ take n xs ++ x ∷ [] = sym whole ∙ take-suc xs n x (omega arith) ∙ ap (λ z. take n xs ++ z ∷ []) (sym last) in
      (map f (take n xs), ap (map f) ends ∙ map-append f (take n xs) (x ∷ []) ∙ ap (λ z. map f (take n xs) ++ z ∷ []) same)

  -- what stands at one place of two lists that are the same under f
  pub same_at : (xs ys : List A) (k : ℕ) (x y : A) → map f xs ≡ map f ys → k < length xs → k < length ys → x ≡ get_or xs k x → y ≡ get_or ys k y → f x ≡ f y
  same_at xs ys k x y same low short here there =
      ap f here ∙ sym (get_or-map f xs k x (f x) low) ∙ ap (λ (l : List B). get_or l k (f x)) same ∙ get_or-map f ys k y (f x) short ∙ ap f (sym there)

-- two lists of one length that are alike from the lesser of this length and a place on are alike from the place on
module _ {A B : Type 0} (f : A → B) where
  pub same_past : (xs ys : List A) (known : ℕ) → length xs ≡ length ys
      → map f (drop (min (length xs) known) xs) ≡ map f (drop (min (length xs) known) ys) → drop known (map f xs) ≡ drop known (map f ys)
  same_past xs ys known same alike = ⊎_elim (λ (within : known < length xs).
      let at : min (length xs) known ≡ known = omega (arith, within) in
      drop-map f known xs ∙ ap (λ n. map f (drop n xs)) (sym at) ∙ alike ∙ ap (λ n. map f (drop n ys)) at ∙ sym (drop-map f known ys))
      (λ (past : length xs ≤ known).
      drop_of_length-le (map f xs) (subst (λ n. n ≤ known) (sym (length-map xs f)) past)
      ∙ sym (drop_of_length-le (map f ys) (subst (λ n. n ≤ known) (same ∙ sym (length-map ys f)) past)))
      (cases_lt known (length xs))

  -- and the other way round
  pub past_same : (xs ys : List A) (known : ℕ) → length xs ≡ length ys
      → drop known (map f xs) ≡ drop known (map f ys) → map f (drop (min (length xs) known) xs) ≡ map f (drop (min (length xs) known) ys)
  past_same xs ys known same alike = ⊎_elim (λ (within : known < length xs).
      let at : min (length xs) known ≡ known = omega (arith, within) in
      ap (λ n. map f (drop n xs)) at ∙ sym (drop-map f known xs) ∙ alike ∙ drop-map f known ys ∙ ap (λ n. map f (drop n ys)) (sym at))
      (λ (past : length xs ≤ known).
      let at : min (length xs) known ≡ length xs = omega (arith, past) in
      ap (map f) (drop_of_length-le xs (omega (arith, at))) ∙ sym (ap (map f) (drop_of_length-le ys (omega (arith, at, same)))))
      (cases_lt known (length xs))

  whole : (from : ℕ) (zs : List A) → take (length zs - from) (drop from zs) ≡ drop from zs
  whole from zs = take_all (length zs - from) (drop from zs) (let e = length-drop from zs in omega (arith, e))

  -- the same of two parts that are cut out by their lengths
  pub same_parts : (xs ys : List A) (from known : ℕ) → length xs ≡ length ys → from ≡ min (length xs) known
      → map f (take (length xs - from) (drop from xs)) ≡ map f (take (length ys - from) (drop from ys)) → drop known (map f xs) ≡ drop known (map f ys)
  same_parts xs ys from known same is alike =
      same_past xs ys known same (subst (λ n. map f (drop n xs) ≡ map f (drop n ys)) is
      (sym (ap (map f) (whole from xs)) ∙ alike ∙ ap (map f) (whole from ys)))

  pub parts_same : (xs ys : List A) (from known : ℕ) → length xs ≡ length ys → from ≡ min (length xs) known
      → drop known (map f xs) ≡ drop known (map f ys) → map f (take (length xs - from) (drop from xs)) ≡ map f (take (length ys - from) (drop from ys))
  parts_same xs ys from known same is alike =
      ap (map f) (whole from xs) ∙ subst (λ n. map f (drop n xs) ≡ map f (drop n ys)) (sym is) (past_same xs ys known same alike) ∙ sym (ap (map f) (whole from ys))
