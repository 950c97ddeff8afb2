-- Lines that lie one after another in one list.
use Rattle.std.proofs.Common.{◌≡◌, ◌+◌, ◌*◌, ◌<◌, ◌≤◌, ℕ, suc, List, ◌++◌, length, get_or, take, drop, sym, ap, subst, ◌∙◌, ⊎_elim, arith, length-append, length-take, length-drop}
use Rattle.std.proofs.Math.Nat.{suc-mul, mul-le-mul_right}
use Rattle.std.proofs.lemmas.Bool.{cases_lt}
use Rattle.std.proofs.lemmas.List.{ext_get_or, get_or_append_left, get_or-append-add, get_or-take, get_or-drop}
use Rattle.mill_base.proofs.lemmas.Lines.{length-line_by, get_or-line_by}
use Rattle.point_paper.specs.declared.paper.LineKind.{LineKind}
use Rattle.point_paper.specs.declared.paper.LineKind.TheVariants.{Pick, Column}
use Rattle.point_paper.specs.Papers.{PaperCells, line_of, line_cells, cell_of}
use Rattle.mill_base.specs.declared.size.Size.{Size}
use Rattle.tile_rebuild.specs.declared.part.Part.{Part}
use Rattle.tile_rebuild.specs.Lines.{item_of, AreColoursOf}

-- a place of a line stands before the end of its line, and that before the end of all
pub place_below : (len n k x : ℕ) → k < n → x < len → k * len + x < n * len
place_below len n k x h low = omega (arith, suc-mul k len, mul-le-mul_right {m = suc k} {n = n} len (omega arith))

pub line_within : (len n k : ℕ) → k < n → k * len + len ≤ n * len
line_within len n k h = omega (arith, suc-mul k len, mul-le-mul_right {m = suc k} {n = n} len (omega arith))

-- a list of which a stretch was set anew: before it, and in it
put_below : (old line rest : List ℕ) (at k : ℕ) → at ≤ length old → k < at → get_or (take at old ++ (line ++ rest)) k 0 ≡ get_or old k 0
put_below old line rest at k room low =
    get_or_append_left (take at old) (line ++ rest) 0 k (omega (arith, length-take at old)) ∙ get_or-take at old k 0 low

put_here : (old line rest : List ℕ) (at x : ℕ) → at ≤ length old → x < length line → get_or (take at old ++ (line ++ rest)) (at + x) 0 ≡ get_or line x 0
put_here old line rest at x room low =
    let long : length (take at old) ≡ at = omega (arith, length-take at old) in
    ap (λ n. get_or (take at old ++ (line ++ rest)) (n + x) 0) (sym long) ∙ get_or-append-add (take at old) (line ++ rest) x 0 ∙ get_or_append_left line rest 0 x low

put_long : (old line : List ℕ) (at len : ℕ) → at + len ≤ length old → length line ≡ len → length (take at old ++ (line ++ drop (at + len) old)) ≡ length old
put_long old line at len room long =
    omega (arith, length-append (take at old) (line ++ drop (at + len) old), length-append line (drop (at + len) old), length-take at old, length-drop (at + len) old, long)

pub put_room : (old new line : List ℕ) (at len : ℕ) → new ≡ take at old ++ (line ++ drop (at + len) old) → at + len ≤ length old → length line ≡ len → length new ≡ length old
put_room old new line at len is room long = ap length is ∙ put_long old line at len room long

pub length-line_of : (kind : LineKind) (paper : PaperCells) (index : ℕ) → length (line_of kind paper index) ≡ line_cells kind paper
length-line_of Pick paper index = length-line_by paper.columns (λ column. cell_of paper column index)
length-line_of Column paper index = length-line_by paper.picks (λ pick. cell_of paper index pick)

-- one more line
pub one_more_line : (old new line : List ℕ) (len n k : ℕ) (cell : ℕ → ℕ → ℕ) → new ≡ take (k * len) old ++ (line ++ drop (k * len + len) old) → k < n → n * len ≤ length old → length line ≡ len
    → ((x : ℕ) → x < len → get_or line x 0 ≡ cell k x)
    → ((j x : ℕ) → j < k → x < len → item_of len old j x ≡ cell j x)
    → (j x : ℕ) → j < k + 1 → x < len → item_of len new j x ≡ cell j x
one_more_line old new line len n k cell is low room long here before j x h inside =
    let within = line_within len n k low in
    ap (λ xs. get_or xs (j * len + x) 0) is
    ∙ ⊎_elim
    (λ (below : j < k). put_below old line (drop (k * len + len) old) (k * len) (j * len + x) (omega arith) (place_below len k j x below inside) ∙ before j x below inside)
    (λ (last : k ≤ j).
    let same : k ≡ j = omega arith in
    subst (λ m. get_or (take (k * len) old ++ (line ++ drop (k * len + len) old)) (m * len + x) 0 ≡ cell m x) same
    (put_here old line (drop (k * len + len) old) (k * len) x (omega arith) (omega arith) ∙ here x inside))
    (cases_lt j k)

-- a line that stands in a list, place by place
pub same_line_each : (kept line : List ℕ) (at len x : ℕ) → take len (drop at kept) ≡ line → x < len → get_or kept (at + x) 0 ≡ get_or line x 0
same_line_each kept line at len x is low = sym (get_or-take len (drop at kept) x 0 low ∙ get_or-drop at kept x 0) ∙ ap (λ xs. get_or xs x 0) is

pub line_by_each : (kept line : List ℕ) (at len : ℕ) → at + len ≤ length kept → length line ≡ len → ((x : ℕ) → x < len → get_or kept (at + x) 0 ≡ get_or line x 0) → take len (drop at kept) ≡ line
line_by_each kept line at len room long each =
    let size : length (take len (drop at kept)) ≡ len = omega (arith, length-take len (drop at kept), length-drop at kept) in
    ext_get_or 0 (take len (drop at kept)) line (size ∙ sym long)
    (λ x h. let low : x < len = omega (arith, size, h) in get_or-take len (drop at kept) x 0 low ∙ get_or-drop at kept x 0 ∙ each x low)

-- lines that were read are the paper's
pub colours_read : (part : Part) (paper : PaperCells) (size : Size) (along up : List ℕ) → size ≡ record { columns = paper.columns; picks = paper.picks }
    → ((k x : ℕ) → k < part.height → x < size.columns → item_of size.columns along k x ≡ get_or (line_of Pick paper (part.pick + k)) x 0)
    → ((k x : ℕ) → k < part.width → x < size.picks → item_of size.picks up k x ≡ get_or (line_of Column paper (part.column + k)) x 0)
    → AreColoursOf part paper along up
colours_read part paper size along up is =
    subst (λ (s : Size). ((k x : ℕ) → k < part.height → x < s.columns → item_of s.columns along k x ≡ get_or (line_of Pick paper (part.pick + k)) x 0)
    → ((k x : ℕ) → k < part.width → x < s.picks → item_of s.picks up k x ≡ get_or (line_of Column paper (part.column + k)) x 0)
    → AreColoursOf part paper along up) (sym is)
    (λ rows columns. record {
      along_picks = λ b x hb hx. rows b x hb hx ∙ get_or-line_by paper.columns (λ column. cell_of paper column (part.pick + b)) x 0 hx;
      up_columns = λ a y ha hy. columns a y ha hy ∙ get_or-line_by paper.picks (λ pick. cell_of paper (part.column + a) pick) y 0 hy;
    })

-- and the paper's lines are those that would be read
pub picks_to_read : (part : Part) (paper : PaperCells) (size : Size) (along up : List ℕ) → size ≡ record { columns = paper.columns; picks = paper.picks } → AreColoursOf part paper along up
    → (k x : ℕ) → k < part.height → x < size.columns → item_of size.columns along k x ≡ get_or (line_of Pick paper (part.pick + k)) x 0
picks_to_read part paper size along up is lines =
    subst (λ (s : Size). (k x : ℕ) → k < part.height → x < s.columns → item_of s.columns along k x ≡ get_or (line_of Pick paper (part.pick + k)) x 0) (sym is)
    (λ k x hk hx. lines.along_picks k x hk hx ∙ sym (get_or-line_by paper.columns (λ column. cell_of paper column (part.pick + k)) x 0 hx))

pub columns_to_read : (part : Part) (paper : PaperCells) (size : Size) (along up : List ℕ) → size ≡ record { columns = paper.columns; picks = paper.picks } → AreColoursOf part paper along up
    → (k x : ℕ) → k < part.width → x < size.picks → item_of size.picks up k x ≡ get_or (line_of Column paper (part.column + k)) x 0
columns_to_read part paper size along up is lines =
    subst (λ (s : Size). (k x : ℕ) → k < part.width → x < s.picks → item_of s.picks up k x ≡ get_or (line_of Column paper (part.column + k)) x 0) (sym is)
    (λ k x hk hx. lines.up_columns k x hk hx ∙ sym (get_or-line_by paper.picks (λ pick. cell_of paper (part.column + k) pick) x 0 hx))
