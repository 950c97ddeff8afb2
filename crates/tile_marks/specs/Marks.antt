-- Sets of tiles, as the list that says of each tile whether it is in the set.
use Rattle.std.specs.Prelude.{◌≡◌, ◌⊎◌, ◌≤◌, ℕ, Bool, false, ◌||◌, List, length, slice_index_or}
use Rattle.mill_base.specs.Firsts.{IsFirstTrue}
use Rattle.mill_base.specs.Lines.{line_by}
use Rattle.tile_grid.specs.Near.{near}
use Rattle.tile_grid.specs.Tiles.{GridValue}

-- no tile from `from` on is in the set
abbrev pub NoneFrom : List Bool → ℕ → Type 0
NoneFrom set from = (tile : ℕ) → from ≤ tile → slice_index_or set tile false ≡ false

-- the tile is the first of the set from `from` on, or, where there is none, the first of the whole set
abbrev pub IsNext : List Bool → ℕ → ℕ → Type 0
IsNext set from tile = IsFirstTrue set from tile ⊎ (NoneFrom set from × IsFirstTrue set 0 tile)

-- the set with all tiles near a tile
unfoldable pub with_near : GridValue → ℕ → List Bool → List Bool
with_near grid tile set = line_by (length set) (λ u. slice_index_or set u false || near grid tile u)
