-- Spans that paint what an act paints.
use Rattle.std.specs.Prelude.{◌≡◌, ℕ, ◌+◌, ◌<◌, ◌≤◌, List, [], ◌∷◌, All, Contains, Option, Some, None, if◌then◌else◌, length, ⊤}
use Rattle.std.specs.Option.{option_or}
use Rattle.mill_base.specs.declared.size.Size.{Size}
use Rattle.point_paper.specs.Papers.{PaperCells, covers, paper_by, after_span}
use Rattle.point_paper.specs.declared.paper.Span.{Span}
use Rattle.strokes.specs.Cells.{MotifCells}
use Rattle.strokes.specs.Paints.{distance, paints}
use Rattle.strokes.specs.declared.act.Act.{Act}
use Rattle.strokes.specs.declared.act.Act.TheVariants.{Dot, Rect, Line, Stamp, HalfDrop, Commit}

-- the span's colour where it has the cell in column c of pick p
abbrev pub span_colour : Span → ℕ → ℕ → Option ℕ
span_colour span c p = if covers span c p then Some span.colour else None

-- the colour of the last span that has the cell
abbrev pub cover : List Span → ℕ → ℕ → Option ℕ
cover [] c p = None
cover (span ∷ later) c p = option_or (cover later c p) (span_colour span c p)

-- the paper once the spans are painted, one after another
abbrev pub after_spans : PaperCells → List Span → PaperCells
after_spans paper [] = paper
after_spans paper (span ∷ later) = after_spans (paper_by paper.columns paper.picks (after_span paper span)) later

-- the span has a cell, and lies inside the paper
pub record IsInside (size : Size) (span : Span) : Type 0 where
  pub some : 0 < span.length
  pub pick : span.pick < size.picks
  pub columns : span.column + span.length ≤ size.columns

-- the colour is that of the act, or of a cell of the motif that it names
abbrev pub IsColourOf : MotifCells → Act → ℕ → Type 0
IsColourOf motif (Dot of column pick) colour = colour ≡ of
IsColourOf motif (Rect of c0 p0 c1 p1) colour = colour ≡ of
IsColourOf motif (Line of c0 p0 c1 p1) colour = colour ≡ of
IsColourOf motif (Stamp number column pick) colour = Contains motif.cells (Some colour)
IsColourOf motif (HalfDrop number column pick) colour = Contains motif.cells (Some colour)
IsColourOf motif Commit colour = ⊥

-- how many spans an act takes: a rectangle and a line one for each pick; of stamps nothing is said here
abbrev pub HasCount : Act → ℕ → Type 0
HasCount (Dot colour column pick) count = count ≡ 1
HasCount (Rect colour c0 p0 c1 p1) count = count ≡ distance p0 p1 + 1
HasCount (Line colour c0 p0 c1 p1) count = count ≡ distance p0 p1 + 1
HasCount (Stamp number column pick) count = ⊤
HasCount (HalfDrop number column pick) count = ⊤
HasCount Commit count = count ≡ 0

-- the spans cover exactly what the act paints on a paper of the size, and lie inside it
pub record AreSpansOf (motif : MotifCells) (size : Size) (act : Act) (spans : List Span) : Type 0 where
  pub cells : (c p : ℕ) → c < size.columns → p < size.picks → cover spans c p ≡ paints motif size act c p
  pub inside : All (IsInside size) spans
  pub colours : All (λ span. IsColourOf motif act span.colour) spans
  pub count : HasCount act (length spans)

-- an act with all that it takes to paint it: the size of the paper, the cells of the motif that it names, and its spans
pub record PreparedAct : Type 0 where
  pub act : Act
  pub size : Size
  pub motif : MotifCells
  pub spans : List Span
