-- Windows of a line in a block.
use Rattle.std.specs.Prelude.{pos}
use Rattle.std.proofs.Common.{IsTrue, ◌↔◌, replicate, cond, ◌≡◌, ℕ, ◌+◌, ◌-◌, ◌*◌, ◌/◌, ◌%◌, ◌<◌, ◌≤◌, Bool, true, false, ◌&&◌, ◌||◌, List, length, get_or, refl, sym, ap, ◌∙◌, ⊎_elim, arith}
use Rattle.std.proofs.lemmas.List.{length-replicate, get_or-replicate}
use Rattle.std.proofs.lemmas.Bool.{cases_Bool, ltb-true, not_from_true}
use Rattle.std.proofs.lemmas.Nat.{mod_below}
use Rattle.std.proofs.Math.Nat.{div-add-mod}
use Rattle.mill_base.specs.Below.{any_below, all_below}
use Rattle.mill_base.specs.Lines.{line_by, same}
use Rattle.mill_base.specs.Lines.{cell_round, cell_at}
use Rattle.cloth_floats.specs.Cells.{limit_of}
use Rattle.cloth_floats.specs.Floats.{is_uniform, length_at}
use Rattle.cloth_floats.specs.Windows.{is_long_over, is_long, long_of}
use Rattle.mill_base.proofs.lemmas.Lines.{length-line_by, get_or-line_by, line_is}
use Rattle.mill_base.proofs.lemmas.Belows.{true_together, any_alike, all_alike, any_none, all_not, all_witness}
use Rattle.cloth_floats.proofs.Doubling.{all_doubled, any_doubled}
use Rattle.mill_base.proofs.lemmas.RoundLines.{same_cell, cell_here, past_is}
use Rattle.cloth_floats.proofs.Sames.{chain_from, same-refl}
use Rattle.cloth_floats.proofs.Lengths.{uniform_cells, uniform_where_none, ends_within}
use Rattle.cloth_floats.proofs.Places.{within_turns, windows_at_places, cell_from}
use Rattle.cloth_floats.proofs.Long.{long_on_uniform, short_inside}
use Rattle.cloth_floats.proofs.Law.{through_each}

-- a cell of a line by a formula, at any place
pub cell_round-line_by : (n : ℕ) (f : ℕ → Bool) (x : ℕ) → 0 < n → cell_round (line_by n f) x ≡ f (x % n)
cell_round-line_by n f x some =
    ap (λ m. get_or (line_by n f) (x % m) false) (length-line_by n f) ∙ get_or-line_by n f (x % n) false (mod_below x n some)

-- a place and its position round the line
pub same_place : (line : List Bool) (x j : ℕ) → cell_round line (x % length line + j) ≡ cell_round line (x + j)
same_place line x j =
    let whole : length line * (x / length line) + x % length line ≡ x = div-add-mod x (length line) in
    same_cell line (x % length line + j) (x + j) (x / length line) 0 (omega arith)

-- a line is the stretch of one cell, ahead or behind
pub ahead_one : (cells : List Bool) → cells ≡ line_by (length cells) (λ k. all_below (λ j. cell_round cells (k + j)) 1)
ahead_one cells = line_is false cells (length cells) (λ k. all_below (λ j. cell_round cells (k + j)) 1) refl
    (λ k h. sym (cell_here cells k h) ∙ ap (cell_round cells) (omega arith))

pub behind_one : (cells : List Bool) → cells ≡ line_by (length cells) (λ k. any_below (λ i. cell_round cells (k + length cells - i)) 1)
behind_one cells = line_is false cells (length cells) (λ k. any_below (λ i. cell_round cells (k + length cells - i)) 1) refl
    (λ k h. sym (cell_here cells k h) ∙ same_cell cells k (k + length cells - 0) 1 0 (omega arith))

-- the stretch ahead is longer by `by`
pub ahead_further : (cells found new : List Bool) (width by : ℕ) → 0 < length cells → by ≤ width
    → found ≡ line_by (length cells) (λ k. all_below (λ j. cell_round cells (k + j)) width)
    → new ≡ line_by (length found) (λ k. get_or found k false && cell_round found (k + by))
    → new ≡ line_by (length cells) (λ k. all_below (λ j. cell_round cells (k + j)) (width + by))
ahead_further cells found new width by some less is grown =
    let n = length cells in
    let f = λ (k : ℕ). all_below (λ j. cell_round cells (k + j)) width in
    let long : length found ≡ n = ap length is ∙ length-line_by n f in
    line_is false new n (λ k. all_below (λ j. cell_round cells (k + j)) (width + by)) (ap length grown ∙ length-line_by (length found) _ ∙ long)
    (λ k h.
    ap (λ xs. get_or xs k false) grown ∙ get_or-line_by (length found) (λ k. get_or found k false && cell_round found (k + by)) k false (omega arith)
    ∙ ap (λ xs. get_or xs k false && cell_round xs (k + by)) is
    ∙ ap (λ b. b && cell_round (line_by n f) (k + by)) (get_or-line_by n f k false h)
    ∙ ap (λ b. f k && b) (cell_round-line_by n f (k + by) some
    ∙ all_alike (λ j. cell_round cells ((k + by) % n + j)) (λ j. cell_round cells (k + (by + j))) width
    (λ j _. same_place cells (k + by) j ∙ ap (cell_round cells) (omega arith)))
    ∙ all_doubled (λ j. cell_round cells (k + j)) width by less)

-- the stretch behind is longer by `by`
pub behind_further : (cells found new : List Bool) (width by : ℕ) → width + by ≤ length cells → 0 < width → by ≤ width
    → found ≡ line_by (length cells) (λ k. any_below (λ i. cell_round cells (k + length cells - i)) width)
    → new ≡ line_by (length found) (λ k. get_or found k false || cell_round found (k + length found - by))
    → new ≡ line_by (length cells) (λ k. any_below (λ i. cell_round cells (k + length cells - i)) (width + by))
behind_further cells found new width by within some less is grown =
    let n = length cells in
    let f = λ (k : ℕ). any_below (λ i. cell_round cells (k + n - i)) width in
    let long : length found ≡ n = ap length is ∙ length-line_by n f in
    line_is false new n (λ k. any_below (λ i. cell_round cells (k + n - i)) (width + by)) (ap length grown ∙ length-line_by (length found) _ ∙ long)
    (λ k h.
    ap (λ xs. get_or xs k false) grown ∙ get_or-line_by (length found) (λ k. get_or found k false || cell_round found (k + length found - by)) k false (omega arith)
    ∙ ap (λ m. get_or found k false || cell_round found (k + m - by)) long
    ∙ ap (λ xs. get_or xs k false || cell_round xs (k + n - by)) is
    ∙ ap (λ b. b || cell_round (line_by n f) (k + n - by)) (get_or-line_by n f k false h)
    ∙ ap (λ b. f k || b) (cell_round-line_by n f (k + n - by) (omega arith)
    ∙ any_alike (λ i. cell_round cells ((k + n - by) % n + n - i)) (λ i. cell_round cells (k + n - (by + i))) width
    (λ i below.
    let start : (k + n - by) % n + n - i ≡ (k + n - by) % n + (n - i) = omega arith in
    ap (cell_round cells) start ∙ same_place cells (k + n - by) (n - i) ∙ same_cell cells (k + n - by + (n - i)) (k + n - (by + i)) 0 1 (omega arith)))
    ∙ any_doubled (λ i. cell_round cells (k + n - i)) width by less)

-- a cell that equals its next, at any place
pub next_cell : (line nexts : List Bool) (x : ℕ) → 0 < length line → nexts ≡ line_by (length line) (λ k. same (get_or line k false) (cell_round line (k + 1)))
    → cell_round nexts x ≡ same (cell_round line x) (cell_round line (x + 1))
next_cell line nexts x some is =
    ap (λ xs. cell_round xs x) is
    ∙ cell_round-line_by (length line) (λ k. same (get_or line k false) (cell_round line (k + 1))) x some
    ∙ ap (same (cell_round line x)) (same_place line x 1)

-- the windows of a limit below the length
pub long_in_block : (line nexts windows long : List Bool) (limit : ℕ) → limit < length line
    → nexts ≡ line_by (length line) (λ k. same (get_or line k false) (cell_round line (k + 1)))
    → windows ≡ line_by (length nexts) (λ k. all_below (λ j. cell_round nexts (k + j)) limit)
    → long ≡ line_by (length windows) (λ k. any_below (λ i. cell_round windows (k + length windows - i)) (limit + 1))
    → long ≡ line_by (length line) (is_long_over line limit)
long_in_block line nexts windows long limit less nexts_are windows_are long_is =
    let n = length line in
    let some : 0 < n = omega arith in
    let next_len : length nexts ≡ n = ap length nexts_are ∙ length-line_by n _ in
    let window_len : length windows ≡ n = ap length windows_are ∙ length-line_by (length nexts) _ ∙ next_len in
    let far : limit ≤ n * limit = within_turns n limit some in
    line_is false long n (is_long_over line limit) (ap length long_is ∙ length-line_by (length windows) _ ∙ window_len)
    (λ k h.
    ap (λ xs. get_or xs k false) long_is
    ∙ get_or-line_by (length windows) (λ k. any_below (λ i. cell_round windows (k + length windows - i)) (limit + 1)) k false (omega arith)
    ∙ ap (λ m. any_below (λ i. cell_round windows (k + m - i)) (limit + 1)) window_len
    ∙ any_alike (λ i. cell_round windows (k + n - i)) (λ i. all_below (λ j. same (cell_round line k) (cell_round line (k + n * limit - i + j))) (limit + 1)) (limit + 1)
    (λ i below.
    ap (λ xs. cell_round xs (k + n - i)) windows_are
    ∙ cell_round-line_by (length nexts) (λ k. all_below (λ j. cell_round nexts (k + j)) limit) (k + n - i) (omega arith)
    ∙ all_alike (λ j. cell_round nexts ((k + n - i) % length nexts + j)) (λ j. same (cell_round line (k + n * limit - i + j)) (cell_round line (k + n * limit - i + (j + 1)))) limit
    (λ j _.
    same_place nexts (k + n - i) j
    ∙ next_cell line nexts (k + n - i + j) some nexts_are
    ∙ ap (λ b. same b (cell_round line (k + n - i + j + 1))) (same_cell line (k + n - i + j) (k + n * limit - i + j) limit 1 (omega arith))
    ∙ ap (same (cell_round line (k + n * limit - i + j))) (same_cell line (k + n - i + j + 1) (k + n * limit - i + (j + 1)) limit 1 (omega arith)))
    ∙ chain_from (λ j. cell_round line (k + n * limit - i + j)) limit i (omega arith)
    ∙ ap (λ b. all_below (λ j. same b (cell_round line (k + n * limit - i + j))) (limit + 1)) (same_cell line (k + n * limit - i + i) k 0 limit (omega arith)))
    ∙ sym (windows_at_places line limit k some))

-- all cells equal their next exactly where all are equal
pub all_nexts : (line nexts : List Bool) (all : Bool) → 0 < length line → nexts ≡ line_by (length line) (λ k. same (get_or line k false) (cell_round line (k + 1)))
    → IsTrue all ↔ ((k : ℕ) → k < length nexts → get_or nexts k false ≡ true) → all ≡ is_uniform line
all_nexts line nexts all some are test = true_together all (is_uniform line)
    (λ yes. uniform_where_none line (λ x h.
    let y = x + length line - 1 in
    not_from_true (same (cell_round line (x + length line - 1)) (cell_round line x))
    (ap (same (cell_round line y)) (sym (same_cell line (y + 1) x 0 1 (omega arith))) ∙ sym (next_cell line nexts y some are)
    ∙ test.0 yes (y % length nexts) (mod_below y (length nexts) (omega (arith, next_len))))))
    (λ uniform. test.1 (λ k h. sym (cell_here nexts k h) ∙ next_cell line nexts k some are
    ∙ same-refl (cell_round line k) (cell_round line (k + 1)) (uniform_cells line k some uniform ∙ sym (uniform_cells line (k + 1) some uniform)))) where
      next_len : length nexts ≡ length line
      next_len = ap length are ∙ length-line_by (length line) _

-- under a limit that is not below the length, only a line of equal cells is long
pub long_past_length : (line : List Bool) (limit k : ℕ) → k < length line → length line ≤ limit → is_uniform line ≡ is_long_over line limit k
long_past_length line limit k h far = ⊎_elim
    (λ (uniform : is_uniform line ≡ true). uniform ∙ sym (long_on_uniform line limit k (omega arith) uniform))
    (λ (mixed : is_uniform line ≡ false).
    let some : 0 < length line = omega arith in
    let found = through_each line k h mixed in
    let x = found.0 in
    let at = found.1 in
    let past = (k + length line - x) % length line in
    let round : length_at line x < length line = ends_within line x some at.starts in
    mixed ∙ sym (short_inside line limit x k past some at.starts (past_is (length line) k x h at.within) (ltb-true past (length_at line x) at.through) round (omega arith)))
    (cases_Bool (is_uniform line))

pub long_if_all : (line nexts long : List Bool) (limit : ℕ) (all : Bool) → 0 < length line → length line ≤ limit
    → nexts ≡ line_by (length line) (λ k. same (get_or line k false) (cell_round line (k + 1)))
    → IsTrue all ↔ ((k : ℕ) → k < length nexts → get_or nexts k false ≡ true)
    → long ≡ replicate (length line) all → long ≡ line_by (length line) (is_long_over line limit)
long_if_all line nexts long limit all some far are test is =
    line_is false long (length line) (is_long_over line limit) (ap length is ∙ length-replicate (length line) all)
    (λ k h. ap (λ xs. get_or xs k false) is ∙ get_or-replicate (length line) k all false h ∙ all_nexts line nexts all some are test ∙ long_past_length line limit k h far)

-- where a stretch of some length is nowhere ahead, no longer one is
pub none_further : (cells found : List Bool) (width count : ℕ) → width ≤ count
    → found ≡ line_by (length cells) (λ k. all_below (λ j. cell_round cells (k + j)) width)
    → ((k : ℕ) → k < length found → get_or found k false ≡ false)
    → found ≡ line_by (length cells) (λ k. all_below (λ j. cell_round cells (k + j)) count)
none_further cells found width count less is none =
    let n = length cells in
    let f = λ (k : ℕ). all_below (λ j. cell_round cells (k + j)) width in
    let long : length found ≡ n = ap length is ∙ length-line_by n f in
    line_is false found n (λ k. all_below (λ j. cell_round cells (k + j)) count) long
    (λ k h.
    let short = sym (get_or-line_by n f k false h) ∙ sym (ap (λ xs. get_or xs k false) is) ∙ none k (omega arith) in
    let w = all_witness (λ j. cell_round cells (k + j)) width short in
    none k (omega arith) ∙ sym (all_not (λ j. cell_round cells (k + j)) count w.0 (let below = w.1 in omega arith) w.2))

-- a line that is true nowhere has none behind either
pub none_behind : (cells : List Bool) (count : ℕ) → ((k : ℕ) → k < length cells → get_or cells k false ≡ false)
    → cells ≡ line_by (length cells) (λ k. any_below (λ i. cell_round cells (k + length cells - i)) count)
none_behind cells count none = line_is false cells (length cells) (λ k. any_below (λ i. cell_round cells (k + length cells - i)) count) refl
    (λ k h. none k h ∙ sym (any_none (λ i. cell_round cells (k + length cells - i)) count
    (λ i _. none ((k + length cells - i) % length cells) (mod_below (k + length cells - i) (length cells) (omega arith)))))

-- the answer by the limit of each cell
pub long_chosen : (line lifted_long unlifted_long long : List Bool) (lifted unlifted : ℕ)
    → lifted_long ≡ line_by (length line) (is_long_over line lifted) → unlifted_long ≡ line_by (length line) (is_long_over line unlifted)
    → long ≡ line_by (length line) (λ k. cond (get_or line k false) (get_or lifted_long k false) (get_or unlifted_long k false))
    → long ≡ long_of line lifted unlifted
long_chosen line lifted_long unlifted_long long lifted unlifted lifted_is unlifted_is is =
    line_is false long (length line) (is_long line lifted unlifted) (ap length is ∙ length-line_by (length line) _)
    (λ k h.
    ap (λ xs. get_or xs k false) is
    ∙ get_or-line_by (length line) (λ k. cond (get_or line k false) (get_or lifted_long k false) (get_or unlifted_long k false)) k false h
    ∙ ap (λ b. cond (get_or line k false) b (get_or unlifted_long k false)) (ap (λ xs. get_or xs k false) lifted_is ∙ get_or-line_by (length line) (is_long_over line lifted) k false h)
    ∙ ap (λ b. cond (get_or line k false) (is_long_over line lifted k) b) (ap (λ xs. get_or xs k false) unlifted_is ∙ get_or-line_by (length line) (is_long_over line unlifted) k false h)
    ∙ by_cell (get_or line k false) k
    ∙ ap (λ b. is_long_over line (limit_of lifted unlifted b) k) (sym (cell_from line k (omega arith) ∙ cell_here line k h))) where
      by_cell : (cell : Bool) (k : ℕ) → cond cell (is_long_over line lifted k) (is_long_over line unlifted k) ≡ is_long_over line (limit_of lifted unlifted cell) k
      by_cell true k = refl
      by_cell false k = refl

pub long_alike : (line long : List Bool) (lifted unlifted : ℕ) → lifted ≡ unlifted → long ≡ line_by (length line) (is_long_over line unlifted) → long ≡ long_of line lifted unlifted
long_alike line long lifted unlifted e is =
    line_is false long (length line) (is_long line lifted unlifted) (ap length is ∙ length-line_by (length line) _)
    (λ k h. ap (λ xs. get_or xs k false) is ∙ get_or-line_by (length line) (is_long_over line unlifted) k false h
    ∙ ap (λ m. is_long_over line m k) (sym (either (cell_at line (pos k))))) where
      either : (cell : Bool) → limit_of lifted unlifted cell ≡ unlifted
      either true = e
      either false = refl
