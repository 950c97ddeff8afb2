-- The first float of the cloth, line by line, and whether it keeps one.
use Rattle.std.proofs.Common.{◌≡◌, ◌≢◌, ⊎_elim, arith, ◌+◌, ◌<◌, ◌↔◌, ℕ, pos, List, Bool, false, length, slice_index, Option, Some, None, is_some, filter_map, slice_get, [], ◌∷◌, ◌++◌, refl, ap, sym, subst, ◌∙◌}
use Rattle.std.specs.Option.{IsNone}
use Rattle.std.specs.List.{range_with_len}
use Rattle.std.specs.Prelude.{All}
use Rattle.std.proofs.lemmas.Bool.{cases_eq, or_from, or_parts, true_from_ne_false}
use Rattle.mill_base.specs.Below.{any_below}
use Rattle.mill_base.specs.Lines.{line_by}
use Rattle.mill_base.proofs.lemmas.Belows.{any_none, any_not}
use Rattle.mill_base.proofs.lemmas.FirstAnswers.{none_all, none_each, nil_append}
use Rattle.mill_base.proofs.lemmas.Lines.{length-line_by}
use Rattle.harness_ties.specs.Ties.{tied}
use Rattle.cloth_floats.specs.declared.Run.{Run}
use Rattle.cloth_floats.specs.Floats.{first_long_of}
use Rattle.cloth_floats.specs.Windows.{is_long}
use Rattle.point_paper.specs.Papers.{BitCells, bit_row, bit_cell}
use Rattle.draft_model.specs.declared.design.Design.{Design}
use Rattle.draft_model.specs.declared.float_run.FloatKind.{FloatKind}
use Rattle.draft_model.specs.declared.float_run.FloatRun.{FloatRun}
use Rattle.draft_model.specs.declared.float_run.FloatKind.TheVariants.{Weft, Warp}
use Rattle.draft_model.specs.Floats.{long, keeps, first_float, weft_line, warp_line, weft_float, warp_float, float_of}
use Rattle.draft_model.proofs.lemmas.ClothLines.{long_by_lines}

-- what was told of a pick is its first float
pub weft_told : (design : Design) (bits : BitCells) (pick : ℕ) (row : List Bool) (run : Option Run) (told : Option FloatRun) → row ≡ bit_row bits pick
    → run ≡ first_long_of (tied design.tie.ends row) design.weft_back design.weft_face → told ≡ float_of Weft pick run → weft_float design bits pick ≡ told
unfolding weft_float
weft_told design bits pick row run told is found was =
    sym (was ∙ ap (float_of Weft pick) (found ∙ ap (λ xs. first_long_of (tied design.tie.ends xs) design.weft_back design.weft_face) is))

-- and of an end
pub warp_told : (design : Design) (bits : BitCells) (end column : ℕ) (run : Option Run) (told : Option FloatRun) → column ≡ slice_index design.tie.ends end
    → run ≡ first_long_of (line_by (length bits.rows) (λ p. bit_cell bits column p)) design.warp_face design.warp_back → told ≡ float_of Warp end run → warp_float design bits end ≡ told
unfolding warp_float
warp_told design bits end column run told is found was =
    sym (was ∙ ap (float_of Warp end) (found ∙ ap (λ k. first_long_of (line_by (length bits.rows) (λ p. bit_cell bits k p)) design.warp_face design.warp_back) is))

-- a pick without a float over its limit, and the ends of columns without one
pub weft_none : (design : Design) (bits : BitCells) (pick : ℕ) (row line : List Bool) → row ≡ bit_row bits pick → line ≡ tied design.tie.ends row
    → first_long_of line design.weft_back design.weft_face ≡ None → weft_float design bits pick ≡ None
weft_none design bits pick row line is laid none =
    weft_told design bits pick row None None is (sym none ∙ ap (λ xs. first_long_of xs design.weft_back design.weft_face) laid) refl

pub warp_none : (design : Design) (bits : BitCells)
    → ((column : ℕ) → column < bits.columns → first_long_of (line_by (length bits.rows) (λ p. bit_cell bits column p)) design.warp_face design.warp_back ≡ None)
    → All (λ column. column < bits.columns) design.tie.ends
    → slice_get (filter_map (warp_float design bits) (range_with_len 0 (length design.tie.ends))) 0 ≡ None
warp_none design bits none tied =
    ap (λ xs. slice_get xs 0)
    (none_all (warp_float design bits) (length design.tie.ends)
    (λ e h. warp_told design bits e (slice_index design.tie.ends e) None None refl (sym (none (slice_index design.tie.ends e) (tied e 0 h))) refl))

-- no answer below a number, and none at it
pub none_to : {A : Type 0} (h : ℕ → Option A) (n : ℕ) → ((k : ℕ) → k < n → h k ≡ None) → h n ≡ None → (k : ℕ) → k < n + 1 → h k ≡ None
none_to h n before here k below = ⊎_elim (λ (is : k ≡ n). ap h is ∙ here) (λ (other : k ≢ n). before k (omega (arith, other, below))) (cases_eq k n)

-- where the first list has no item, the first of both is the first of the second
pub no_left : {A : Type 0} (xs ys : List A) → slice_get xs 0 ≡ None → slice_get (xs ++ ys) 0 ≡ slice_get ys 0
no_left [] ys none = refl
no_left (x ∷ xs) ys none = absurd (cc)

-- a float is told of a line exactly where the line has one
none_of_float : (kind : FloatKind) (line : ℕ) (run : Option Run) → float_of kind line run ≡ None → IsNone run
none_of_float kind line None none = refl
none_of_float kind line (Some run) none = absurd (cc)

float_of_none : (kind : FloatKind) (line : ℕ) (run : Option Run) → IsNone run → float_of kind line run ≡ None
float_of_none kind line None none = refl
float_of_none kind line (Some run) none = absurd (cc)

-- the law of one line, as it is handed in
abbrev pub HasNoneWhereNotLong : Type 0
HasNoneWhereNotLong = (line : List Bool) (lifted unlifted : ℕ) → 0 < length line
    → IsNone (first_long_of line lifted unlifted) ↔ ((k : ℕ) → k < length line → is_long line lifted unlifted k ≡ false)

-- where no float is told, no cell is long
none_long : HasNoneWhereNotLong → (design : Design) (bits : BitCells) → 0 < length design.tie.ends → 0 < length bits.rows → first_float design bits ≡ None → keeps design bits ≡ false
unfolding first_float weft_float warp_float keeps
none_long law design bits ends picks none =
    let both = nil_append (filter_map (weft_float design bits) (range_with_len 0 (length bits.rows))) (filter_map (warp_float design bits) (range_with_len 0 (length design.tie.ends))) none in
    any_none (λ p. any_below (λ e. long design bits (pos e) (pos p)) (length design.tie.ends)) (length bits.rows)
    (λ p hp. any_none (λ e. long design bits (pos e) (pos p)) (length design.tie.ends)
    (λ e he.
    let weft = weft_line design.tie.ends bits p in
    let warp = warp_line design.tie.ends bits e in
    let wide = length-line_by (length design.tie.ends) (λ x. bit_cell bits (slice_index design.tie.ends x) p) in
    let high = length-line_by (length bits.rows) (λ y. bit_cell bits (slice_index design.tie.ends e) y) in
    long_by_lines design bits e p he hp
    ∙ or_from (is_long weft design.weft_back design.weft_face e) (is_long warp design.warp_face design.warp_back p)
    ((law weft design.weft_back design.weft_face (subst (λ n. 0 < n) (sym wide) ends)).0
    (none_of_float Weft p (first_long_of weft design.weft_back design.weft_face) (none_each (weft_float design bits) (length bits.rows) p both.0 hp)) e (subst (λ n. e < n) (sym wide) he))
    ((law warp design.warp_face design.warp_back (subst (λ n. 0 < n) (sym high) picks)).0
    (none_of_float Warp e (first_long_of warp design.warp_face design.warp_back) (none_each (warp_float design bits) (length design.tie.ends) e both.1 he)) p (subst (λ n. p < n) (sym high) hp))))

-- where no cell is long, no float is told
none_told : HasNoneWhereNotLong → (design : Design) (bits : BitCells) → 0 < length design.tie.ends → 0 < length bits.rows → keeps design bits ≡ false → first_float design bits ≡ None
unfolding first_float weft_float warp_float keeps
none_told law design bits ends picks none =
    ap (λ xs. slice_get (xs ++ filter_map (warp_float design bits) (range_with_len 0 (length design.tie.ends))) 0)
    (none_all (weft_float design bits) (length bits.rows)
    (λ p hp.
    let weft = weft_line design.tie.ends bits p in
    let wide = length-line_by (length design.tie.ends) (λ x. bit_cell bits (slice_index design.tie.ends x) p) in
    float_of_none Weft p (first_long_of weft design.weft_back design.weft_face)
    ((law weft design.weft_back design.weft_face (subst (λ n. 0 < n) (sym wide) ends)).1
    (λ e h. let he = subst (λ n. e < n) wide h in
    (or_parts (is_long weft design.weft_back design.weft_face e) (is_long (warp_line design.tie.ends bits e) design.warp_face design.warp_back p)
    (sym (long_by_lines design bits e p he hp) ∙ nowhere e p he hp)).0))))
    ∙ ap (λ xs. slice_get ([] ++ xs) 0)
    (none_all (warp_float design bits) (length design.tie.ends)
    (λ e he.
    let warp = warp_line design.tie.ends bits e in
    let high = length-line_by (length bits.rows) (λ y. bit_cell bits (slice_index design.tie.ends e) y) in
    float_of_none Warp e (first_long_of warp design.warp_face design.warp_back)
    ((law warp design.warp_face design.warp_back (subst (λ n. 0 < n) (sym high) picks)).1
    (λ p h. let hp = subst (λ n. p < n) high h in
    (or_parts (is_long (weft_line design.tie.ends bits p) design.weft_back design.weft_face e) (is_long warp design.warp_face design.warp_back p)
    (sym (long_by_lines design bits e p he hp) ∙ nowhere e p he hp)).1))))
  where
    nowhere : (e p : ℕ) → e < length design.tie.ends → p < length bits.rows → long design bits (pos e) (pos p) ≡ false
    nowhere e p he hp = any_not (λ e. long design bits (pos e) (pos p)) (length design.tie.ends) e
        (any_not (λ p. any_below (λ e. long design bits (pos e) (pos p)) (length design.tie.ends)) (length bits.rows) p none hp) he

-- a cloth keeps a float exactly where one is told
pub keeps_what_is_told : HasNoneWhereNotLong → (design : Design) (bits : BitCells) → 0 < length design.tie.ends → 0 < length bits.rows → keeps design bits ≡ is_some (first_float design bits)
keeps_what_is_told law design bits ends picks = told (first_float design bits) (none_long law design bits ends picks) (none_told law design bits ends picks) where
  told : (first : Option FloatRun) → (first ≡ None → keeps design bits ≡ false) → (keeps design bits ≡ false → first ≡ None) → keeps design bits ≡ is_some first
  told None there back = there refl
  told (Some float) there back = true_from_ne_false (keeps design bits) (λ e. absurd (let f = back e in cc))
