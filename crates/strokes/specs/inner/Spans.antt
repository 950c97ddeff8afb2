-- Spans that are laid one after another.
use Rattle.std.specs.Prelude.{◌≡◌, ℕ, ◌+◌, ◌-◌, ◌<◌, ◌≤◌, ◌==◌, nat_le, nat_lt, Bool, ◌&&◌, List, All, Contains, length, slice_index_or, Option, Some, None, if◌then◌else◌}
use Rattle.std.specs.Option.{option_or}
use Rattle.mill_base.specs.declared.size.Size.{Size}
use Rattle.point_paper.specs.declared.paper.Span.{Span}
use Rattle.strokes.specs.Cells.{MotifCells}
use Rattle.strokes.specs.Paints.{steps_round, stamped}
use Rattle.strokes.specs.Spans.{cover, IsInside}

-- spans of one colour that have exactly the cells of a test
pub record PaintInColour (size : Size) (colour : ℕ) (has : ℕ → ℕ → Bool) (spans : List Span) : Type 0 where
  pub cells : (c p : ℕ) → cover spans c p ≡ (if has c p then Some colour else None)
  pub inside : All (IsInside size) spans
  pub colours : All (λ span. span.colour ≡ colour) spans

-- spans that were added paint what the formula says over what the spans before them paint, with colours of a motif's
-- cells
pub record AreAdded (size : Size) (all : List (Option ℕ)) (painted : ℕ → ℕ → Option ℕ) (old new : List Span) : Type 0 where
  pub over : (c p : ℕ) → c < size.columns → p < size.picks → cover new c p ≡ option_or (painted c p) (cover old c p)
  pub inside : All (IsInside size) old → All (IsInside size) new
  pub colours : All (λ span. Contains all (Some span.colour)) old → All (λ span. Contains all (Some span.colour)) new

-- equal cells side by side on a pick, from a column on
abbrev pub run : Option ℕ → ℕ → ℕ → ℕ → ℕ → ℕ → Option ℕ
run cell column pick length c p = if (p == pick) && nat_le column c && nat_lt c (column + length) then cell else None

-- cells that are laid side by side on a pick, from a column on
abbrev pub laid : List (Option ℕ) → ℕ → ℕ → ℕ → ℕ → Option ℕ
laid cells column pick c p = if (p == pick) && nat_le column c then slice_index_or cells (c - column) None else None

-- the same, round the repeat of so many columns
abbrev pub laid_round : List (Option ℕ) → ℕ → ℕ → ℕ → ℕ → ℕ → Option ℕ
laid_round cells columns column pick c p = if p == pick then slice_index_or cells (steps_round columns column c) None else None

-- the lowest rows of a motif, as they are stamped
abbrev pub stamped_below : MotifCells → Size → ℕ → ℕ → ℕ → ℕ → ℕ → Option ℕ
stamped_below motif size column pick rows c p = if nat_lt (steps_round size.picks pick p) rows then stamped motif size column pick c p else None

-- each of the cells is one of a motif's
abbrev pub AreAmong : List (Option ℕ) → List (Option ℕ) → Type 0
AreAmong all cells = (k : ℕ) → k < length cells → Contains all (slice_index_or cells k None)

-- the cells lie on the paper, and are cells of the motif
pub record AreLaidInside (size : Size) (all cells : List (Option ℕ)) (column pick : ℕ) : Type 0 where
  pub low : pick < size.picks
  pub within : column + length cells ≤ size.columns
  pub among : AreAmong all cells
