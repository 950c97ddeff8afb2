-- What becomes of a result that is given to a core.
use Rattle.std.specs.Prelude.{◌≡◌, ℕ, ◌+◌, ◌-◌, ◌*◌, ◌^◌, ◌<◌, min, Bool, true, false, List, slice_index_or, slice_set}
use Rattle.tile_grid.specs.Near.{near}
use Rattle.tile_grid.specs.Tiles.{GridValue, tiles}
use Rattle.tile_rebuild.specs.declared.job.Done.{Done}
use Rattle.tile_rebuild.specs.declared.job.Done.TheVariants.{Bind, Check}
use Rattle.tile_rebuild.specs.Lines.{AreBitsOf, AreColoursOf}
use Rattle.tile_rebuild.specs.Rebuilds.{IsPut}
use Rattle.tile_rebuild.specs.Tiles.{grid_of, part_at}
use Rattle.tile_rebuild.specs.Values.{BoundTile, FlagTile}
use Rattle.studio_core.specs.Cores.{CoreValue}

-- the tile of a result has a mark of the result's kind
abbrev pub is_marked : CoreValue → Done → Bool
is_marked core (Bind done) = slice_index_or core.bind done.tile false
is_marked core (Check done) = slice_index_or core.check done.tile false

-- no tile near a tile has a mark
abbrev pub IsNearClear : GridValue → ℕ → List Bool → Type 0
IsNearClear grid tile marks = (u : ℕ) → u < tiles grid → near grid tile u ≡ true → slice_index_or marks u false ≡ false

-- a flag is of the present where no near tile is still to be bound and its lines are those of the present bits
pub record IsCheckPresent (core : CoreValue) (done : FlagTile) : Type 0 where
  pub clear : IsNearClear (grid_of core.design) done.tile core.bind
  pub lines : AreBitsOf (part_at (grid_of core.design) done.tile) core.bits done.picks done.columns

-- the result is of the present: bound cells where their lines are those of the present paper
abbrev pub IsPresent : CoreValue → Done → Type 0
IsPresent core (Bind done) = AreColoursOf (part_at (grid_of core.design) done.tile) core.paper done.picks done.columns
IsPresent core (Check done) = IsCheckPresent core done

-- one more, up to the greatest number of 64 bits
abbrev pub one_more : ℕ → ℕ
one_more count = min (count + 1) (2 ^ 64 - 1)

-- the tile's cells are put into the bits, and its bind mark is cleared; all else stays
pub record IsBindInstalled (old : CoreValue) (done : BoundTile) (new : CoreValue) : Type 0 where
  pub cells : IsPut (part_at (grid_of old.design) done.tile) done.cells old.bits new.bits
  pub rest : new ≡ record old { bits = new.bits; bind = slice_set old.bind done.tile false; installed = one_more old.installed }

-- the tile's flag is set, and its check mark is cleared; all else stays
abbrev pub IsCheckInstalled : CoreValue → FlagTile → CoreValue → Type 0
IsCheckInstalled old done new = new
    ≡ record old { check = slice_set old.check done.tile false; flags = slice_set old.flags done.tile done.flag; installed = one_more old.installed }

abbrev pub IsInstalled : CoreValue → Done → CoreValue → Type 0
IsInstalled old (Bind done) new = IsBindInstalled old done new
IsInstalled old (Check done) new = IsCheckInstalled old done new

-- the most steps that a result takes: those of its lines, and none for a check
abbrev pub most_steps : CoreValue → Done → ℕ
most_steps core (Bind done) = core.design.tile * (core.design.size.columns + core.design.size.picks)
most_steps core (Check done) = 0
