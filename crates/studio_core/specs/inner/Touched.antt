-- Which tiles spans touch.
use Rattle.std.specs.Prelude.{ℕ, Bool, List, is_some}
use Rattle.mill_base.specs.declared.size.Size.{Size}
use Rattle.point_paper.specs.Papers.{covers}
use Rattle.point_paper.specs.declared.paper.Span.{Span}
use Rattle.strokes.specs.Spans.{cover}
use Rattle.tile_grid.specs.Near.{any_cell}
use Rattle.tile_grid.specs.Tiles.{GridValue}

-- the size of the paper that a grid is laid over
abbrev pub grid_size : GridValue → Size
grid_size grid = record { columns = grid.columns; picks = grid.picks }

-- a span has a cell of the tile
unfoldable pub span_touches : GridValue → Span → ℕ → Bool
span_touches grid span tile = any_cell grid tile (covers span)

-- some span has a cell of the tile
unfoldable pub spans_touch : GridValue → List Span → ℕ → Bool
spans_touch grid spans tile = any_cell grid tile (λ c p. is_some (cover spans c p))
