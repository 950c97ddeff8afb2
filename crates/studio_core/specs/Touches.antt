-- Which tiles an act touches, and which tiles it marks.
use Rattle.std.specs.Prelude.{ℕ, Bool, ◌&&◌, is_some}
use Rattle.mill_base.specs.Below.{any_below}
use Rattle.mill_base.specs.declared.size.Size.{Size}
use Rattle.strokes.specs.Cells.{MotifCells}
use Rattle.strokes.specs.Paints.{paints}
use Rattle.strokes.specs.declared.act.Act.{Act}
use Rattle.tile_grid.specs.Near.{any_cell, near}
use Rattle.tile_grid.specs.Tiles.{GridValue, tiles}

-- the act, with the cells of the motif that it names, paints a cell of the tile
unfoldable pub touches : GridValue → MotifCells → Size → Act → ℕ → Bool
touches grid motif size act tile = any_cell grid tile (λ c p. is_some (paints motif size act c p))

-- some tile that passes the test is near the tile
unfoldable pub near_any : GridValue → (ℕ → Bool) → ℕ → Bool
near_any grid test tile = any_below (λ t. test t && near grid t tile) (tiles grid)

-- the tiles that an act marks for binding: those near a tile that it touches
abbrev pub bind_tiles : GridValue → MotifCells → Size → Act → ℕ → Bool
bind_tiles grid motif size act = near_any grid (touches grid motif size act)

-- the tiles that an act marks for checking: those near a tile that it marks for binding
abbrev pub check_tiles : GridValue → MotifCells → Size → Act → ℕ → Bool
check_tiles grid motif size act = near_any grid (bind_tiles grid motif size act)
