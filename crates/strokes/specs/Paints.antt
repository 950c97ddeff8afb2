-- What an act paints: a colour number, or nothing, in each cell of a paper. The acts and their rules are this project's
-- own.
use Rattle.std.specs.Prelude.{ℕ, ◌+◌, ◌-◌, ◌*◌, ◌/◌, ◌%◌, min, max, ◌==◌, nat_le, Bool, ◌&&◌, Option, Some, None, unwrap_or, if◌then◌else◌}
use Rattle.std.specs.Option.{option_or}
use Rattle.mill_base.specs.Below.{any_below}
use Rattle.mill_base.specs.declared.size.Size.{Size}
use Rattle.point_paper.specs.Papers.{PaperCells, cell_of, paper_by}
use Rattle.strokes.specs.Cells.{MotifCells, motif_cell}
use Rattle.strokes.specs.declared.act.Act.{Act}
use Rattle.strokes.specs.declared.act.Act.TheVariants.{Dot, Rect, Line, Stamp, HalfDrop, Commit}

-- the number lies between two others, which come in any order, or is one of them
abbrev pub is_between : ℕ → ℕ → ℕ → Bool
is_between a b x = nat_le (min a b) x && nat_le x (max a b)

-- how far apart two numbers are
abbrev pub distance : ℕ → ℕ → ℕ
distance a b = max a b - min a b

-- the number that lies k from a towards b
abbrev pub towards : ℕ → ℕ → ℕ → ℕ
towards a b k = if nat_le a b then a + k else a - k

-- The line rule. With dx and dy the distances in columns and in picks and n the greater of them, the line has the cells
-- 0 to n. Cell i lies floor((2 * i * dx + n) / (2 * n)) columns and floor((2 * i * dy + n) / (2 * n)) picks from the
-- first corner towards the second. Where n is 0 the line is one cell, since a quotient by 0 is 0.
unfoldable pub line_step : ℕ → ℕ → ℕ → ℕ
line_step n d i = (2 * i * d + n) / (2 * n)

-- the greater distance of two corners
abbrev pub line_length : ℕ → ℕ → ℕ → ℕ → ℕ
line_length c0 p0 c1 p1 = max (distance c0 c1) (distance p0 p1)

-- where cell i of a line of n lies between a and b
abbrev pub line_place : ℕ → ℕ → ℕ → ℕ → ℕ
line_place n a b i = towards a b (line_step n (distance a b) i)

abbrev pub is_line_cell : ℕ → ℕ → ℕ → ℕ → ℕ → ℕ → ℕ → Bool
is_line_cell c0 p0 c1 p1 c p i = (c == line_place (line_length c0 p0 c1 p1) c0 c1 i) && (p == line_place (line_length c0 p0 c1 p1) p0 p1 i)

-- some cell of the line is the cell in column c of pick p
abbrev pub is_on_line : ℕ → ℕ → ℕ → ℕ → ℕ → ℕ → Bool
is_on_line c0 p0 c1 p1 c p = any_below (is_line_cell c0 p0 c1 p1 c p) (line_length c0 p0 c1 p1 + 1)

-- how many steps it is from `from` to x, round a repeat of n: (x - from) mod n
unfoldable pub steps_round : ℕ → ℕ → ℕ → ℕ
steps_round n from x = (x + n - from) % n

-- a motif with its cell in column 0 of pick 0 at a cell of the paper, round the repeat of the paper
abbrev pub stamped : MotifCells → Size → ℕ → ℕ → ℕ → ℕ → Option ℕ
stamped motif size column pick c p = motif_cell motif (steps_round size.columns column c) (steps_round size.picks pick p)

-- half the paper further on, round the repeat
abbrev pub half_on : ℕ → ℕ → ℕ
half_on n x = (x + n / 2) % n

-- What an act paints in column c of pick p, on a paper of the size and with the cells of the motif that the act names.
-- Of the two stamps of a half drop the second counts where both paint.
abbrev pub paints : MotifCells → Size → Act → ℕ → ℕ → Option ℕ
paints motif size (Dot colour column pick) c p = if (c == column) && (p == pick) then Some colour else None
paints motif size (Rect colour c0 p0 c1 p1) c p = if is_between c0 c1 c && is_between p0 p1 p then Some colour else None
paints motif size (Line colour c0 p0 c1 p1) c p = if is_on_line c0 p0 c1 p1 c p then Some colour else None
paints motif size (Stamp number column pick) c p = stamped motif size column pick c p
paints motif size (HalfDrop number column pick) c p =
    option_or (stamped motif size (half_on size.columns column) (half_on size.picks pick) c p) (stamped motif size column pick c p)
paints motif size Commit c p = None

abbrev pub size_of : PaperCells → Size
size_of paper = record { columns = paper.columns; picks = paper.picks }

-- the paper after an act, with the cells of the motif that it names: what the act paints, and elsewhere what was there
abbrev pub after : MotifCells → PaperCells → Act → PaperCells
after motif paper act = paper_by paper.columns paper.picks (λ c p. unwrap_or (paints motif (size_of paper) act c p) (cell_of paper c p))
