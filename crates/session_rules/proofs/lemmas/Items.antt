-- The items of a list, one after another.
use Rattle.std.proofs.Common.{◌≡◌, Bool, true, false, ◌||◌, ℕ, ◌+◌, ◌<◌, List, [], ◌∷◌, ◌++◌, length, get_or, take, drop, map, add-one, Option, Some, option_map, sym, ap, refl, ◌∙◌, subst, arith}
use Rattle.std.proofs.Math.Seq.{drop-cons}
use Rattle.std.proofs.lemmas.List.{append-nil, append_assoc, map-append, take-append-drop, take_more, length-map, length-take}
use Rattle.std.proofs.lemmas.List.Folds.{list_any-append}
use Rattle.std.specs.List.{list_any}
use Rattle.toml.specs.Data.{Data, Items}
use Rattle.toml.specs.View.{view, items_of}
use Rattle.toml.specs.declared.value.Value.{Value}
use Rattle.session_rules.specs.declared.fault.SessionRefusal.{SessionRefusal}
use Rattle.session_rules.specs.Checks.{ItemCheck, each}
use Rattle.session_rules.specs.Faults.{TellsFirst}
use Rattle.session_rules.specs.Paths.{indexed}
use Rattle.session_rules.specs.Values.{each_value, list_of}
use Rattle.session_rules.proofs.lemmas.Told.{told_here}

pub list_of-items_of : (ds : List Data) → list_of (items_of ds) ≡ ds
list_of-items_of [] = refl
list_of-items_of (d ∷ ds) = ap (λ es. d ∷ es) (list_of-items_of ds)

-- the items of an array, by the values of its vector
pub items_listed : (o : Option Items) (array items : List Value) → Some (items_of (map view array)) ≡ o → items ≡ array → Some (map view items) ≡ option_map list_of o
items_listed o array items there same = ap (λ vs. Some (map view vs)) same ∙ sym (ap Some (list_of-items_of (map view array))) ∙ ap (option_map list_of) there

each-append : (check : ItemCheck) (path : List ℕ) (earlier ds es : List Data) → each check path earlier (ds ++ es) ≡ each check path earlier ds ++ each check path (earlier ++ ds) es
each-append check path earlier [] es = ap (λ l. each check path l es) (sym (append-nil earlier))
each-append check path earlier (d ∷ ds) es =
    ap (λ faults. check earlier (indexed path (length earlier)) d ++ faults) (each-append check path (earlier ++ d ∷ []) ds es)
    ∙ sym (append_assoc (check earlier (indexed path (length earlier)) d) (each check path (earlier ++ d ∷ []) ds) (each check path ((earlier ++ d ∷ []) ++ ds) es))
    ∙ ap (λ l. (check earlier (indexed path (length earlier)) d ++ each check path (earlier ++ d ∷ []) ds) ++ each check path l es) (append_assoc earlier (d ∷ []) ds)

each_value-append : {A : Type 0} (value : List Data → Data → A) (earlier ds es : List Data) → each_value value earlier (ds ++ es) ≡ each_value value earlier ds ++ each_value value (earlier ++ ds) es
each_value-append value earlier [] es = ap (λ l. each_value value l es) (sym (append-nil earlier))
each_value-append value earlier (d ∷ ds) es =
    ap (λ vs. value earlier d ∷ vs) (each_value-append value (earlier ++ d ∷ []) ds es ∙ ap (λ l. each_value value (earlier ++ d ∷ []) ds ++ each_value value l es) (append_assoc earlier (d ∷ []) ds))

-- a list with a part of it, and what stands behind that part
parted : (vs : List Value) (i : ℕ) (v : Value) → i < length vs → v ≡ get_or vs i v → vs ≡ take i vs ++ v ∷ drop (i + 1) vs
parted vs i v below here =
    sym (take-append-drop i vs) ∙ ap (λ xs. take i vs ++ xs) (drop-cons vs i v below ∙ ap (λ n. get_or vs i v ∷ drop n vs) (sym (add-one i)) ∙ ap (λ x. x ∷ drop (i + 1) vs) (sym here))

one_more : (vs : List Value) (i : ℕ) (v : Value) → i < length vs → v ≡ get_or vs i v → map view (take (i + 1) vs) ≡ map view (take i vs) ++ view v ∷ []
one_more vs i v below here = ap (map view) (take_more vs i v below ∙ ap (λ x. take i vs ++ x ∷ []) (sym here)) ∙ map-append view (take i vs) (v ∷ [])

front : (vs : List Value) (i : ℕ) → i < length vs → length (map view (take i vs)) ≡ i
front vs i below = simp (length-map, length-take) (omega arith)

module _ (check : ItemCheck) (path : List ℕ) (vs : List Value) (i : ℕ) (v : Value) (below : i < length vs) (here : v ≡ get_or vs i v) (whole : each check path [] (map view (take i vs)) ≡ []) where
  -- one more item without a fault
  pub faults_go_on : check (map view (take i vs)) (indexed path i) (view v) ≡ [] → each check path [] (map view (take (i + 1) vs)) ≡ []
  faults_go_on none = rw (one_more vs i v below here, each-append check path [] (map view (take i vs)) (view v ∷ []), whole, front vs i below, none)

  -- the first item with a fault
  pub faults_stop : (r : SessionRefusal) → TellsFirst (check (map view (take i vs)) (indexed path i) (view v)) r → TellsFirst (each check path [] (map view vs)) r
  faults_stop r told =
      let split : map view vs ≡ map view (take i vs) ++ view v ∷ map view (drop (i + 1) vs) = ap (map view) (parted vs i v below here) ∙ map-append view (take i vs) (v ∷ drop (i + 1) vs) in
      subst (λ ds. TellsFirst (each check path [] ds) r) (sym split)
      (rw (each-append check path [] (map view (take i vs)) (view v ∷ map view (drop (i + 1) vs)), whole, front vs i below) (told_here _ _ r told))

pub values_go_on : {A : Type 0} (value : List Data → Data → A) (vs : List Value) (i : ℕ) (v : Value) → i < length vs → v ≡ get_or vs i v
    → each_value value [] (map view (take (i + 1) vs)) ≡ each_value value [] (map view (take i vs)) ++ value (map view (take i vs)) (view v) ∷ []
values_go_on value vs i v below here = ap (each_value value []) (one_more vs i v below here) ∙ each_value-append value [] (map view (take i vs)) (view v ∷ [])

or_true : (a b : Bool) → (a || (true || b)) ≡ true
or_true true b = refl
or_true false b = refl

-- one more item that fails a test, and the first that passes it
pub any_goes_on : (p : Data → Bool) (vs : List Value) (i : ℕ) (v : Value) → i < length vs → v ≡ get_or vs i v → p (view v) ≡ false → list_any p (map view (take i vs)) ≡ false
    → list_any p (map view (take (i + 1) vs)) ≡ false
any_goes_on p vs i v below here fails none = rw (one_more vs i v below here, list_any-append p (map view (take i vs)) (view v ∷ []), none, fails)

pub any_stops : (p : Data → Bool) (vs : List Value) (i : ℕ) (v : Value) → i < length vs → v ≡ get_or vs i v → p (view v) ≡ true → list_any p (map view vs) ≡ true
any_stops p vs i v below here holds =
    ap (list_any p) (ap (map view) (parted vs i v below here) ∙ map-append view (take i vs) (v ∷ drop (i + 1) vs))
    ∙ list_any-append p (map view (take i vs)) (view v ∷ map view (drop (i + 1) vs))
    ∙ ap (λ b. list_any p (map view (take i vs)) || (b || list_any p (map view (drop (i + 1) vs)))) holds
    ∙ or_true (list_any p (map view (take i vs))) (list_any p (map view (drop (i + 1) vs)))
