-- The first of all floats.
use Rattle.std.proofs.Common.{◌≡◌, ℕ, Bool, true, false, List, [], ◌∷◌, ◌++◌, length, map, filter, filter_map, flat_map, take, slice_get, Option, Some, None, is_some, refl, sym, ap, ◌∙◌, ⊎_elim, arith}
use Rattle.std.specs.Option.{option_map}
use Rattle.std.specs.List.{find, range_with_len, cons_option}
use Rattle.std.proofs.lemmas.Bool.{cases_Bool, cond-true, cond-false}
use Rattle.cloth_floats.specs.declared.Run.{Run}
use Rattle.cloth_floats.specs.Floats.{runs_of, is_over, first_long_of}
use Rattle.point_paper.specs.Papers.{BitCells}
use Rattle.draft_model.specs.declared.design.Design.{Design}
use Rattle.draft_model.specs.declared.float_run.FloatKind.{FloatKind}
use Rattle.draft_model.specs.declared.float_run.FloatKind.TheVariants.{Weft, Warp}
use Rattle.draft_model.specs.Floats.{first_float, weft_float, warp_float, weft_line, warp_line, float_of}
use Rattle.float_list.specs.declared.long_float.Limits.{Limits}
use Rattle.float_list.specs.declared.long_float.LongFloat.{LongFloat}
use Rattle.float_list.specs.Floats.{limits_of, over_limit, floats_along, floats_of}
use Rattle.float_list.specs.Lists.{told, list_of}
use Rattle.float_list.specs.declared.list.FloatList.{FloatList}
use Rattle.float_list.specs.declared.list.TheConstants.{MAX_LISTED}
use Rattle.float_list.proofs.Kept.{first_kept}

first_passed : {X Y Z : Type 0} (f : X → Y) (h : Y → Z) (p : X → Bool) (xs : List X)
    → option_map h (slice_get (map f (filter p xs)) 0) ≡ option_map (λ x. h (f x)) (find p xs)
first_passed f h p [] = refl
first_passed f h p (x ∷ xs) = ⊎_elim
    (λ (e : p x ≡ true).
    ap (λ ys. option_map h (slice_get (map f ys) 0)) (cond-true (p x) (x ∷ filter p xs) (filter p xs) e)
    ∙ sym (ap (option_map (λ x. h (f x))) (cond-true (p x) (Some x) (find p xs) e)))
    (λ (e : p x ≡ false).
    ap (λ ys. option_map h (slice_get (map f ys) 0)) (cond-false (p x) (x ∷ filter p xs) (filter p xs) e)
    ∙ first_passed f h p xs
    ∙ sym (ap (option_map (λ x. h (f x))) (cond-false (p x) (Some x) (find p xs) e)))
    (cases_Bool (p x))

told_of : (kind : FloatKind) (line : ℕ) (run : Option Run)
    → option_map (λ (run : Run). told (record { kind = kind; line = line; run = run })) run ≡ float_of kind line run
told_of kind line None = refl
told_of kind line (Some run) = refl

first_over : (limits : Limits) (line : ℕ) (cells : List Bool)
    → option_map told (slice_get (over_limit limits line cells) 0) ≡ float_of limits.kind line (first_long_of cells limits.lifted limits.unlifted)
unfolding over_limit first_long_of
first_over limits line cells =
    first_passed (λ (run : Run). record { kind = limits.kind; line = line; run = run }) told (is_over limits.lifted limits.unlifted) (runs_of cells)
    ∙ told_of limits.kind line (find (is_over limits.lifted limits.unlifted) (runs_of cells))

-- the first of two lists, and of pieces
first_of_both : {Y Z : Type 0} (h : Y → Z) (xs ys : List Y) (us vs : List Z) → option_map h (slice_get xs 0) ≡ slice_get us 0 → option_map h (slice_get ys 0) ≡ slice_get vs 0
    → option_map h (slice_get (xs ++ ys) 0) ≡ slice_get (us ++ vs) 0
first_of_both h [] ys [] vs one other = other
first_of_both h [] ys (u ∷ us) vs one other = absurd (cc)
first_of_both h (x ∷ xs) ys [] vs one other = absurd (cc)
first_of_both h (x ∷ xs) ys (u ∷ us) vs one other = one

first_of_piece : {Y Z : Type 0} (h : Y → Z) (xs ys : List Y) (w : Option Z) (vs : List Z) → option_map h (slice_get xs 0) ≡ w → option_map h (slice_get ys 0) ≡ slice_get vs 0
    → option_map h (slice_get (xs ++ ys) 0) ≡ slice_get (cons_option w vs) 0
first_of_piece h [] ys None vs one other = other
first_of_piece h [] ys (Some u) vs one other = absurd (cc)
first_of_piece h (x ∷ xs) ys None vs one other = absurd (cc)
first_of_piece h (x ∷ xs) ys (Some u) vs one other = one

first_of_pieces : {X Y Z : Type 0} (h : Y → Z) (g : X → List Y) (w : X → Option Z) → ((x : X) → option_map h (slice_get (g x) 0) ≡ w x) → (xs : List X)
    → option_map h (slice_get (flat_map g xs) 0) ≡ slice_get (filter_map w xs) 0
first_of_pieces h g w each [] = refl
first_of_pieces h g w each (x ∷ xs) = first_of_piece h (g x) (flat_map g xs) (w x) (filter_map w xs) (each x) (first_of_pieces h g w each xs)

pub first_of_all : (design : Design) (bits : BitCells) → option_map told (slice_get (floats_of design bits) 0) ≡ first_float design bits
unfolding floats_along first_float weft_float warp_float
first_of_all design bits =
    first_of_both told (floats_along Weft design bits) (floats_along Warp design bits)
    (filter_map (weft_float design bits) (range_with_len 0 (length bits.rows)))
    (filter_map (warp_float design bits) (range_with_len 0 (length design.tie.ends)))
    (first_of_pieces told (λ line. over_limit (limits_of Weft design) line (weft_line design.tie.ends bits line)) (weft_float design bits)
    (λ line. first_over (limits_of Weft design) line (weft_line design.tie.ends bits line)) (range_with_len 0 (length bits.rows)))
    (first_of_pieces told (λ line. over_limit (limits_of Warp design) line (warp_line design.tie.ends bits line)) (warp_float design bits)
    (λ line. first_over (limits_of Warp design) line (warp_line design.tie.ends bits line)) (range_with_len 0 (length design.tie.ends)))

-- there is one exactly where one is told
pub some_mapped : {Y Z : Type 0} (h : Y → Z) (o : Option Y) (w : Option Z) → option_map h o ≡ w → is_some o ≡ is_some w
some_mapped h None None e = refl
some_mapped h None (Some z) e = absurd (cc)
some_mapped h (Some y) None e = absurd (cc)
some_mapped h (Some y) (Some z) e = refl

pub first_listed : (design : Design) (bits : BitCells) (listed : List LongFloat) → listed ≡ take MAX_LISTED (floats_of design bits) → option_map told (slice_get listed 0) ≡ first_float design bits
first_listed design bits listed are =
    ap (λ (l : List LongFloat). option_map told (slice_get l 0)) are
    ∙ ap (option_map told) (first_kept MAX_LISTED (floats_of design bits) (omega arith)) ∙ first_of_all design bits

pub list_is : (design : Design) (bits : BitCells) (listed : List LongFloat) (weft warp : ℕ) → listed ≡ take MAX_LISTED (floats_of design bits)
    → weft ≡ length (floats_along Weft design bits) → warp ≡ length (floats_along Warp design bits) → ◌≡◌ {A = FloatList} (record { listed = listed; weft = weft; warp = warp }) (list_of design bits)
list_is design bits listed weft warp are wefts warps =
    ap {B = FloatList} (λ (l : List LongFloat). record { listed = l; weft = weft; warp = warp }) are
    ∙ ap {B = FloatList} (λ (n : ℕ). record { listed = take MAX_LISTED (floats_of design bits); weft = n; warp = warp }) wefts
    ∙ ap {B = FloatList} (λ (n : ℕ). record { listed = take MAX_LISTED (floats_of design bits); weft = length (floats_along Weft design bits); warp = n }) warps
