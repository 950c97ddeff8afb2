-- Lists that grow or change item by item.
use Rattle.std.proofs.Common.{◌≡◌, ◌+◌, ◌<◌, ◌≤◌, ℕ, zero, suc, Bool, true, false, not, List, [], ◌∷◌, ◌++◌, length, get_or, map, take, drop, refl, sym, ap, ◌∙◌, add-one, arith}
use Rattle.std.proofs.lemmas.List.{length-map}
use Rattle.std.proofs.lemmas.List.FromFn.{length-map-range_with_len}
use Rattle.std.specs.List.{range_with_len}
use Rattle.mill_base.specs.declared.face.Face.{Face}
use Rattle.mill_base.specs.declared.face.Face.TheVariants.{Up, Down}
use Rattle.point_paper.specs.Papers.{PaperCells}
use Rattle.draft_model.specs.Cards.{woven}
use Rattle.draft_model.specs.Cloths.{ClothCells}
use Rattle.draft_model.specs.Drawdowns.{drawdown}
use Rattle.draft_model.specs.declared.design.Design.{Design}
use Rattle.loom_threads.specs.Woven.{digest_of, lifted, lifted_rows}
use Rattle.version_journal.specs.declared.run_log.Repeat.{Repeat}
use Rattle.report_text.specs.Reports.{row_line}
use Rattle.audit_model.specs.Lines.{lines_of_rows}
use Rattle.audit_model.proofs.Basics.{at_range}
use Rattle.audit_report.specs.Checkers.{digest_by, turned}

rows_suc : (rows : List (List Bool)) (n k : ℕ) (d : List Bool) → k < length rows → lines_of_rows n (take (suc k) rows) ≡ lines_of_rows n (take k rows) ++ row_line (n + k) (get_or rows k d) ∷ []
rows_suc [] n k d h = absurd (omega (arith, h))
rows_suc (row ∷ rows) n zero d h = ap (λ m. row_line m row ∷ []) (let e : n ≡ n + 0 = omega arith in e)
rows_suc (row ∷ rows) n (suc k) d h =
    ap (λ l. row_line n row ∷ l) (rows_suc rows (n + 1) k d (omega (arith, h)) ∙ ap (λ m. lines_of_rows (n + 1) (take k rows) ++ row_line m (get_or rows k d) ∷ []) (let e : n + 1 + k ≡ n + suc k = omega arith in e))

pub rows_more : (rows : List (List Bool)) (k : ℕ) (d : List Bool) → k < length rows → lines_of_rows 0 (take (k + 1) rows) ≡ lines_of_rows 0 (take k rows) ++ row_line k (get_or rows k d) ∷ []
rows_more rows k d h =
    ap (λ m. lines_of_rows 0 (take m rows)) (add-one k) ∙ rows_suc rows 0 k d h ∙ ap (λ m. lines_of_rows 0 (take k rows) ++ row_line m (get_or rows k d) ∷ []) (let e : 0 + k ≡ k = omega arith in e)

-- lists of one length with the same items
pub same_items : {X : Type 0} (xs ys : List X) (d : X) → length xs ≡ length ys → ((i : ℕ) → i < length ys → get_or xs i d ≡ get_or ys i d) → xs ≡ ys
same_items [] [] d l h = refl
same_items [] (y ∷ ys) d l h = absurd (omega (arith, l))
same_items (x ∷ xs) [] d l h = absurd (omega (arith, l))
same_items (x ∷ xs) (y ∷ ys) d l h =
    ap (λ z. z ∷ xs) (h 0 (omega arith)) ∙ ap (λ zs. y ∷ zs) (same_items xs ys d (omega (arith, l)) (λ i b. h (suc i) (omega (arith, b))))

map_at : (f : List Bool → List Bool) (xs : List (List Bool)) (i : ℕ) → f [] ≡ [] → get_or (map f xs) i [] ≡ f (get_or xs i [])
map_at f [] i e = sym e
map_at f (x ∷ xs) zero e = refl
map_at f (x ∷ xs) (suc i) e = map_at f xs i e

pub turned_is : (new old : ClothCells) → new.ends ≡ old.ends → length new.rows ≡ length old.rows
    → ((i : ℕ) → i < length old.rows → get_or new.rows i [] ≡ map not (get_or old.rows i [])) → new ≡ turned old
turned_is new old ends many each = both new.ends old.ends new.rows (map (map not) old.rows) ends
    (same_items new.rows (map (map not) old.rows) [] (many ∙ sym (length-map old.rows (map not))) (λ i h. each i (omega (arith, h, length-map old.rows (map not))) ∙ sym (map_at (map not) old.rows i refl))) where
      both : (m n : ℕ) (xs ys : List (List Bool)) → m ≡ n → xs ≡ ys → ◌≡◌ {A = ClothCells} (record { ends = m; rows = xs }) (record { ends = n; rows = ys })
      both m n xs ys a b = ap (λ k. the k xs) a ∙ ap (the n) b where
        the : ℕ → List (List Bool) → ClothCells
        the k rows = record { ends = k; rows = rows }

pub joined_is : (new before woven : List (List Repeat)) → length new ≡ length before
    → ((i : ℕ) → i < length before → get_or new i [] ≡ get_or before i [] ++ get_or woven i [])
    → new ≡ map (λ loom. get_or before loom [] ++ get_or woven loom []) (range_with_len 0 (length before))
joined_is new before woven many each =
    let f : ℕ → List Repeat = λ loom. get_or before loom [] ++ get_or woven loom [] in
    let long = length-map-range_with_len f 0 (length before) in
    same_items new (map f (range_with_len 0 (length before))) [] (many ∙ sym long) (λ i h. each i (omega (arith, h, long)) ∙ sym (at_range f (length before) i [] (omega (arith, h, long))))

-- what is left of a list
pub some_left : {X : Type 0} (xs : List X) (n : ℕ) → n < length xs → drop n xs ≡ [] → ⊥
some_left [] n h e = absurd (omega (arith, h))
some_left (x ∷ xs) zero h e = absurd (let z : suc (length xs) ≡ 0 = ap length e in omega (arith, z))
some_left (x ∷ xs) (suc n) h e = some_left xs n (omega (arith, h)) e

pub all_dropped : {X : Type 0} (xs : List X) (n : ℕ) → length xs ≤ n → drop n xs ≡ []
all_dropped [] zero h = refl
all_dropped [] (suc n) h = refl
all_dropped (x ∷ xs) zero h = absurd (omega (arith, h))
all_dropped (x ∷ xs) (suc n) h = all_dropped xs n (omega (arith, h))

drop_suc : {X : Type 0} (xs : List X) (n : ℕ) (d : X) → n < length xs → drop n xs ≡ get_or xs n d ∷ drop (suc n) xs
drop_suc [] n d h = absurd (omega (arith, h))
drop_suc (x ∷ xs) zero d h = refl
drop_suc (x ∷ xs) (suc n) d h = drop_suc xs n d (omega (arith, h))

pub drop_cons : {X : Type 0} (xs : List X) (n : ℕ) (d : X) → n < length xs → drop n xs ≡ get_or xs n d ∷ drop (n + 1) xs
drop_cons xs n d h = drop_suc xs n d h ∙ ap (λ m. get_or xs n d ∷ drop m xs) (sym (add-one n))

-- a cloth, turned twice
not_twice : (row : List Bool) → map not (map not row) ≡ row
not_twice [] = refl
not_twice (true ∷ row) = ap (λ l. true ∷ l) (not_twice row)
not_twice (false ∷ row) = ap (λ l. false ∷ l) (not_twice row)

rows_twice : (rows : List (List Bool)) → map (map not) (map (woven Down) rows) ≡ rows
rows_twice [] = refl
rows_twice (row ∷ rows) = ap (λ r. r ∷ map (map not) (map (woven Down) rows)) (not_twice row) ∙ ap (λ l. row ∷ l) (rows_twice rows)

abbrev the_cloth : ℕ → List (List Bool) → ClothCells
the_cloth ends rows = record { ends = ends; rows = rows }

-- what a loom of face down lifts is the other side of the cloth
pub down_is : (design : Design) (paper : PaperCells) → map (woven Down) (lifted_rows design Down paper) ≡ (drawdown design paper).rows → turned (drawdown design paper) ≡ lifted design Down paper
down_is design paper rows = ap (λ l. the_cloth (length design.tie.ends) (map (map not) l)) (sym rows) ∙ ap (the_cloth (length design.tie.ends)) (rows_twice (lifted_rows design Down paper))

pub are_digests : (design : Design) (paper : PaperCells) (cloth other : ClothCells) (up down : List ℕ) → lifted design Up paper ≡ drawdown design paper
    → map (woven Down) (lifted_rows design Down paper) ≡ (drawdown design paper).rows → cloth ≡ drawdown design paper → other ≡ turned cloth → up ≡ digest_of cloth → down ≡ digest_of other
    → (face : Face) → digest_by (record { up = up; down = down }) face ≡ digest_of (lifted design face paper)
are_digests design paper cloth other up down lift rows is turn one two Up = one ∙ ap digest_of (is ∙ sym lift)
are_digests design paper cloth other up down lift rows is turn one two Down = two ∙ ap digest_of (turn ∙ ap turned is ∙ down_is design paper rows)
