-- What holds of the fields of a core.
use Rattle.std.specs.Prelude.{◌≡◌}
use Rattle.tile_grid.specs.Tiles.{GridValue}
use Rattle.tile_rebuild.specs.Tiles.{grid_of}
use Rattle.studio_core.specs.declared.rooms.Rooms.{Rooms}
use Rattle.studio_core.specs.Cores.{CoreValue, IsCore}
use Rattle.studio_core.specs.inner.Rooms.{AreRooms}

-- what holds of every core, with the grid of its tiles and room to gather and rebuild them
pub record IsKept (core : CoreValue) (grid : GridValue) (rooms : Rooms) : Type 0 where
  pub is_core : IsCore core
  pub of_grid : grid ≡ grid_of core.design
  pub for_rooms : AreRooms core.design rooms
