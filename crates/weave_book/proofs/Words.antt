-- What is answered for the rows that words spell.
use Rattle.std.proofs.Common.{◌≡◌, ℕ, ◌==◌, nat_lt, Bool, true, not, ◌&&◌, ◌||◌, List, [], ◌∷◌, length, map, get_or, slice_get, Some, None, Result, cond, refl, sym, ap, ◌∙◌}
use Rattle.std.specs.List.{list_all, cons_option}
use Rattle.std.proofs.lemmas.List.{length-map}
use Rattle.mill_base.specs.declared.limits.TheConstants.{MAX_WEAVE}
use Rattle.weave_book.specs.Spelling.{answered, broken, cells_of, has_length, is_narrow, is_row, rows_words, unless}
use Rattle.weave_book.specs.declared.fault.WeaveFault.{WeaveFault}
use Rattle.weave_book.specs.declared.fault.WeaveFault.TheVariants.{TooWide, Ragged}
use Rattle.weave_book.specs.declared.weaves.Weave.{Weave}
use Rattle.weave_book.specs.declared.weaves.Weave.TheVariants.{Rows}

-- a test of lengths says the same of words and of the rows that they spell
all_by_length : (p : ℕ → Bool) (words : List (List ℕ)) → list_all (λ row. p (length row)) (map cells_of words) ≡ list_all (λ word. p (length word)) words
all_by_length p [] = refl
all_by_length p (word ∷ words) =
    ap (λ n. p n && list_all (λ row. p (length row)) (map cells_of words)) (length-map word (λ byte. byte == 49)) ∙ ap (λ b. p (length word) && b) (all_by_length p words)

-- the answer for rows, by whether they are too wide and whether they are even
abbrev pub told : Bool → Bool → List (List Bool) → Result Weave WeaveFault
told wide even rows = unless (slice_get (cons_option (broken wide TooWide) (cons_option (broken (not even) Ragged) [])) 0) (Rows rows)

pub rows_told : (words : List (List ℕ)) (first : List ℕ) (rest : List (List ℕ)) (wide even : Bool) → words ≡ first ∷ rest → list_all is_row words ≡ true
    → (nat_lt MAX_WEAVE (length words) || not (list_all is_narrow words)) ≡ wide → list_all (has_length (length first)) words ≡ even
    → told wide even (map cells_of words) ≡ answered (rows_words words)
rows_told words first rest wide even is every wide_is even_is = sym (
    ap (λ ws. answered (rows_words ws)) is ∙ ap (λ ws. answered (cond (list_all is_row ws) (Some (Rows (map cells_of ws))) None)) (sym is)
    ∙ ap (λ b. answered (cond b (Some (Rows rows)) None)) every
    ∙ ap (λ b. told b (list_all (has_length (length (get_or rows 0 []))) rows) rows)
    (ap (λ n. nat_lt MAX_WEAVE n || not (list_all is_narrow rows)) (length-map words cells_of)
    ∙ ap (λ b. nat_lt MAX_WEAVE (length words) || not b) (all_by_length (λ n. not (nat_lt MAX_WEAVE n)) words) ∙ wide_is)
    ∙ ap (λ b. told wide b rows)
    (ap (λ n. list_all (has_length n) rows) (ap (λ ws. length (get_or (map cells_of ws) 0 [])) is ∙ length-map first (λ byte. byte == 49))
    ∙ all_by_length (λ n. n == length first) words ∙ even_is)
    )
  where
    rows : List (List Bool)
    rows = map cells_of words
