-- Buffers that are filled, and rows that are packed one after another.
use Rattle.std.proofs.Common.{◌≡◌, ◌+◌, ◌<◌, ℕ, Bool, List, [], ◌∷◌, ◌++◌, length, get_or, take, drop, map, refl, ap, sym, ◌∙◌, add-one, append_assoc, append-nil}
use Rattle.std.specs.List.{concat}
use Rattle.std.proofs.Math.Seq.{take-append_seam, take-suc}
use Rattle.mill_base.specs.Bits.{packed}
use Rattle.mill_base.specs.Lines.{line_by}
use Rattle.mill_base.proofs.lemmas.Lines.{line_by_more}

-- what a buffer holds once a whole line was put into it
pub line_read : (len : ℕ) (old put read line : List ℕ) → read ≡ take len (put ++ drop (length put) old) → put ≡ line → length line ≡ len → read ≡ line
line_read len old put read line is same long =
    is ∙ ap (λ n. take n (put ++ drop (length put) old)) (sym long ∙ ap length (sym same)) ∙ take-append_seam put (drop (length put) old) ∙ same

concat-snoc : (xs : List (List ℕ)) (x : List ℕ) → concat (xs ++ x ∷ []) ≡ concat xs ++ x
concat-snoc [] x = append-nil x
concat-snoc (y ∷ xs) x = ap (λ l. y ++ l) (concat-snoc xs x) ∙ sym (append_assoc y (concat xs) x)

map-snoc : {A B : Type 0} (f : A → B) (xs : List A) (x : A) → map f (xs ++ x ∷ []) ≡ map f xs ++ f x ∷ []
map-snoc f [] x = refl
map-snoc f (y ∷ xs) x = ap (λ l. f y ∷ l) (map-snoc f xs x)

-- the packed bytes of one row more
pub packed_more : (rows : List (List Bool)) (k : ℕ) (row : List Bool) → k < length rows → row ≡ get_or rows k []
    → concat (map packed (take k rows)) ++ packed row ≡ concat (map packed (take (k + 1) rows))
packed_more rows k row there is = sym (rw (add-one k, take-suc rows k [] there)
    (ap concat (map-snoc packed (take k rows) (get_or rows k [])) ∙ concat-snoc (map packed (take k rows)) (packed (get_or rows k []))
    ∙ ap (λ r. concat (map packed (take k rows)) ++ packed r) (sym is)))

pub packed_line : (n : ℕ) (row : ℕ → List Bool) → concat (map packed (line_by n row)) ++ packed (row n) ≡ concat (map packed (line_by (n + 1) row))
packed_line n row = sym (ap (λ (rows : List (List Bool)). concat (map packed rows)) (line_by_more n row) ∙ ap concat (map-snoc packed (line_by n row) (row n)) ∙ concat-snoc (map packed (line_by n row)) (packed (row n)))

-- no rows are packed into no bytes
pub packed_none : (row : ℕ → List Bool) → [] ≡ concat (map packed (line_by 0 row))
unfolding line_by
packed_none row = refl
