-- Grids of long cells, row by row.
use Rattle.std.proofs.Common.{◌≡◌, ◌<◌, ◌==◌, ◌&&◌, ◌||◌, ℕ, Bool, false, List, [], length, map, replicate, get_or, slice_index, sym, ap, subst, ◌∙◌}
use Rattle.std.proofs.lemmas.List.{length-map, get_or-map, ext_get_or}
use Rattle.mill_base.specs.Below.{any_below}
use Rattle.mill_base.specs.Grids.{GridCells, grid_cell, grid_row, transposed}
use Rattle.mill_base.specs.Lines.{line_by}
use Rattle.mill_base.proofs.lemmas.Belows.{any_alike}
use Rattle.mill_base.proofs.lemmas.Lines.{length-line_by, get_or-line_by, line_is, line_by_alike, line_of_one}
use Rattle.harness_ties.specs.Ties.{tied, gathered}
use Rattle.cloth_floats.specs.Windows.{is_long, long_of}
use Rattle.point_paper.specs.Papers.{bit_cell}
use Rattle.draft_model.specs.declared.design.Design.{Design}
use Rattle.draft_model.specs.Cells.{is_weft_long, long_cell_by}
use Rattle.draft_model.specs.Cloths.{rows_by}
use Rattle.draft_model.specs.Drawdowns.{column_long}
use Rattle.draft_model.specs.Inner.{bits_of, end_long}

pub grid_is : (grid : GridCells) (width : ℕ) (rows : List (List Bool)) → grid.width ≡ width → grid.rows ≡ rows → grid ≡ record { width = width; rows = rows }
grid_is grid width rows wide high =
    ap (λ (n : ℕ). record { width = n; rows = grid.rows }) wide ∙ ap (λ (r : List (List Bool)). record { width = width; rows = r }) high

-- rows that are another's, each taken through one function
pub rows_mapped : (f : List Bool → List Bool) (rows old : List (List Bool)) → length rows ≡ length old → ((j : ℕ) → j < length old → get_or rows j [] ≡ f (get_or old j [])) → rows ≡ map f old
rows_mapped f rows old long each = ext_get_or [] rows (map f old) (long ∙ sym (length-map old f))
    (λ j h. let below : j < length old = subst (λ n. j < n) long h in each j below ∙ sym (get_or-map f old j [] [] below))

pub length-long_of : (line : List Bool) (lifted unlifted : ℕ) → length (long_of line lifted unlifted) ≡ length line
length-long_of line lifted unlifted = length-line_by (length line) (is_long line lifted unlifted)

pub get_or-long_of : (line : List Bool) (lifted unlifted k : ℕ) → k < length line → get_or (long_of line lifted unlifted) k false ≡ is_long line lifted unlifted k
get_or-long_of line lifted unlifted k h = get_or-line_by (length line) (is_long line lifted unlifted) k false h

-- rows that were marked where they are long
abbrev pub marked_grid : (ℕ → ℕ → Bool) → ℕ → ℕ → ℕ → ℕ → GridCells
marked_grid cell columns picks lifted unlifted = record { width = picks; rows = map (λ row. long_of row lifted unlifted) (line_by columns (λ column. line_by picks (cell column))) }

marked_cell : (cell : ℕ → ℕ → Bool) (columns picks lifted unlifted column pick : ℕ) → column < columns → pick < picks
    → grid_cell (marked_grid cell columns picks lifted unlifted) pick column ≡ is_long (line_by picks (λ y. cell column y)) lifted unlifted pick
marked_cell cell columns picks lifted unlifted column pick c p =
    ap (λ row. get_or row pick false)
    (get_or-map (λ row. long_of row lifted unlifted) rows column [] [] (subst (λ n. column < n) (sym (length-line_by columns (λ k. line_by picks (cell k)))) c)
    ∙ ap (λ row. long_of row lifted unlifted) (get_or-line_by columns (λ k. line_by picks (cell k)) column [] c))
    ∙ get_or-long_of (line_by picks (cell column)) lifted unlifted pick (subst (λ n. pick < n) (sym (length-line_by picks (cell column))) p)
  where
    rows : List (List Bool)
    rows = line_by columns (λ column. line_by picks (cell column))

-- a grid turned, its rows marked where they are long, and turned back
pub turned_back : (cell : ℕ → ℕ → Bool) (columns picks lifted unlifted : ℕ)
    → transposed (record { width = picks; rows = map (λ row. long_of row lifted unlifted) (line_by columns (λ column. line_by picks (cell column))) })
    ≡ record { width = columns; rows = rows_by columns picks (λ column pick. is_long (line_by picks (λ y. cell column y)) lifted unlifted pick) }
turned_back cell columns picks lifted unlifted =
    grid_is (transposed grid) columns (rows_by columns picks (λ column pick. is_long (line_by picks (λ y. cell column y)) lifted unlifted pick)) high
    (ap (λ n. line_by picks (λ pick. line_by n (λ column. grid_cell grid pick column))) high
    ∙ line_by_alike [] picks (λ pick. line_by columns (λ column. grid_cell grid pick column))
    (λ pick. line_by columns (λ column. is_long (line_by picks (λ y. cell column y)) lifted unlifted pick))
    (λ pick p. line_by_alike false columns (λ column. grid_cell grid pick column) (λ column. is_long (line_by picks (λ y. cell column y)) lifted unlifted pick)
    (λ column c. marked_cell cell columns picks lifted unlifted column pick c p)))
  where
    grid : GridCells
    grid = marked_grid cell columns picks lifted unlifted

    high : length (map (λ row. long_of row lifted unlifted) (line_by columns (λ column. line_by picks (cell column)))) ≡ columns
    high = length-map (line_by columns (λ column. line_by picks (cell column))) (λ row. long_of row lifted unlifted) ∙ length-line_by columns (λ column. line_by picks (cell column))

-- where no row is long anywhere, a grid that is false everywhere is the one that would be turned back
pub none_is_long : (cell : ℕ → ℕ → Bool) (columns picks lifted unlifted : ℕ) (marked : GridCells)
    → marked ≡ record { width = picks; rows = map (λ row. long_of row lifted unlifted) (line_by columns (λ column. line_by picks (cell column))) }
    → ((column pick : ℕ) → column < columns → grid_cell marked pick column ≡ false)
    → ◌≡◌ {A = GridCells} (record { width = columns; rows = replicate picks (replicate columns false) })
    (record { width = columns; rows = rows_by columns picks (λ column pick. is_long (line_by picks (λ y. cell column y)) lifted unlifted pick) })
none_is_long cell columns picks lifted unlifted marked is none =
    ap (λ (rows : List (List Bool)). record { width = columns; rows = rows })
    (line_of_one picks (replicate columns false)
    ∙ line_by_alike [] picks (λ pick. replicate columns false) (λ pick. line_by columns (λ column. is_long (line_by picks (λ y. cell column y)) lifted unlifted pick))
    (λ pick p. line_of_one columns false
    ∙ line_by_alike false columns (λ column. false) (λ column. is_long (line_by picks (λ y. cell column y)) lifted unlifted pick)
    (λ column c. sym (none column pick c) ∙ ap (λ (g : GridCells). grid_cell g pick column) is ∙ marked_cell cell columns picks lifted unlifted column pick c p)))

-- the long columns of a pick, from its row on the cloth and from the ends
pub pick_is_long : (design : Design) (raw : GridCells) (columns pick : ℕ) (new : List Bool) → length new ≡ columns
    → ((i : ℕ) → i < columns → get_or new i false
    ≡ (get_or (gathered columns design.tie.ends (long_of (tied design.tie.ends (grid_row raw pick)) design.weft_back design.weft_face)) i false
    || get_or (line_by columns (λ column. end_long design raw column pick)) i false))
    → ((column : ℕ) → column < columns → column_long design (bits_of raw) column pick
    ≡ long_cell_by design (λ x. bit_cell (bits_of raw) x pick) (λ y. bit_cell (bits_of raw) column y) column pick)
    → new ≡ line_by columns (λ column. column_long design (bits_of raw) column pick)
unfolding long_cell_by
pick_is_long design raw columns pick new long each law =
    line_is false new columns (λ column. column_long design (bits_of raw) column pick) long
    (λ i h. each i h
    ∙ ap (λ b. b || get_or (line_by columns (λ column. end_long design raw column pick)) i false)
    (get_or-line_by columns (λ c. any_below (λ e. slice_index design.tie.ends e == c && get_or marks e false) (length design.tie.ends)) i false h
    ∙ any_alike (λ e. slice_index design.tie.ends e == i && get_or marks e false) (is_weft_long design (λ x. bit_cell (bits_of raw) x pick) i) (length design.tie.ends)
    (λ e below. ap (λ b. slice_index design.tie.ends e == i && b)
    (get_or-long_of line design.weft_back design.weft_face e (subst (λ n. e < n) (sym (length-line_by (length design.tie.ends) (λ x. get_or (grid_row raw pick) (slice_index design.tie.ends x) false))) below))))
    ∙ ap (λ b. any_below (is_weft_long design (λ x. bit_cell (bits_of raw) x pick) i) (length design.tie.ends) || b)
    (get_or-line_by columns (λ column. end_long design raw column pick) i false h)
    ∙ sym (law i h))
  where
    line : List Bool
    line = tied design.tie.ends (grid_row raw pick)

    marks : List Bool
    marks = long_of line design.weft_back design.weft_face
