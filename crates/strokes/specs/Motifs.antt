-- How motifs are spelled, and what is wrong with rows that spell none. The spelling is this project's own.
use Rattle.std.specs.Prelude.{ℕ, ◌+◌, ◌-◌, ◌^◌, min, ◌==◌, nat_lt, not, ◌||◌, List, [], ◌∷◌, ◌++◌, length, map, slice_get, slice_index_or, bytes_eq, codes, Option, Some, None, if◌then◌else◌}
use Rattle.std.specs.List.{flat_map, position}
use Rattle.mill_base.specs.Words.{words_of, number_of}
use Rattle.mill_base.specs.declared.size.Size.{Size}
use Rattle.strokes.specs.Cells.{MotifCells}
use Rattle.strokes.specs.declared.fault.MotifFault.{MotifFault}
use Rattle.strokes.specs.declared.fault.MotifFault.TheVariants.{Token, Colour, Ragged, TooLarge}
use Rattle.strokes.specs.declared.motifs.NamedMotif.{NamedMotif}

-- A motif is spelled by its rows from the lowest pick upwards, each a text with a word for each cell, from the left. A
-- word is a colour number, or `.` for a cell that is not painted, which is no number.
abbrev pub row_cells : List ℕ → List (Option ℕ)
row_cells row = map number_of (words_of row)

-- how many words a row has, and how many row 0 has
abbrev pub width_of : List ℕ → ℕ
width_of row = length (words_of row)

abbrev pub first_width : List (List ℕ) → ℕ
first_width rows = width_of (slice_index_or rows 0 [])

-- the motif that rows without a fault spell
abbrev pub motif_of : List (List ℕ) → MotifCells
motif_of rows = record { columns = first_width rows; picks = length rows; cells = flat_map row_cells rows }

-- a place is told in 32 bits: a greater one as the greatest number
abbrev pub told : ℕ → ℕ
told place = min place (2 ^ 32 - 1)

-- Rule 1, word by word: it is `.` or a number, and the number is a colour of the book.
abbrev pub colour_faults : ℕ → ℕ → ℕ → Option ℕ → List MotifFault
colour_faults colours row k None = Token (told row) (told k) ∷ []
colour_faults colours row k (Some colour) = if nat_lt colour colours then [] else Colour (told row) (told k) ∷ []

abbrev pub word_faults : ℕ → ℕ → ℕ → List ℕ → List MotifFault
word_faults colours row k word = if bytes_eq word (codes ".") then [] else colour_faults colours row k (number_of word)

-- the faults of the words of a row, of which the first has the place k
abbrev pub words_faults : ℕ → ℕ → ℕ → List (List ℕ) → List MotifFault
words_faults colours row k [] = []
words_faults colours row k (word ∷ words) = word_faults colours row k word ++ words_faults colours row (k + 1) words

-- Rule 2, row by row: it has a word, and as many as row 0.
abbrev pub width_faults : ℕ → ℕ → ℕ → List MotifFault
width_faults width row found = if (found == 0) || not (found == width) then Ragged (told row) ∷ [] else []

abbrev pub row_faults : ℕ → ℕ → ℕ → List ℕ → List MotifFault
row_faults colours width row text = words_faults colours row 0 (words_of text) ++ width_faults width row (width_of text)

-- the faults of rows, of which the first has the place `row`
abbrev pub rows_faults : ℕ → ℕ → ℕ → List (List ℕ) → List MotifFault
rows_faults colours width row [] = []
rows_faults colours width row (text ∷ rows) = row_faults colours width row text ++ rows_faults colours width (row + 1) rows

-- Rule 3, last: no more words in a row than the paper has columns, and no more rows than it has picks.
abbrev pub size_faults : Size → ℕ → ℕ → List MotifFault
size_faults size width height = if nat_lt size.columns width || nat_lt size.picks height then TooLarge ∷ [] else []

-- all faults of rows as a motif of a paper, in the order of the rules
unfoldable pub motif_faults : List (List ℕ) → ℕ → Size → List MotifFault
motif_faults rows colours size = rows_faults colours (first_width rows) 0 rows ++ size_faults size (first_width rows) (length rows)

-- the fault that is told is the first
unfoldable pub motif_fault : List (List ℕ) → ℕ → Size → Option MotifFault
motif_fault rows colours size = slice_get (motif_faults rows colours size) 0

-- the least number of a motif that has the name
unfoldable pub motif_number : List NamedMotif → List ℕ → Option ℕ
motif_number motifs name = position (λ motif. bytes_eq motif.name name) motifs
