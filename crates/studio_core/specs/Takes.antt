-- Which job is taken of a core.
use Rattle.std.specs.Prelude.{◌≡◌, ℕ, Option, Some, None}
use Rattle.tile_marks.specs.Marks.{IsNext, NoneFrom}
use Rattle.tile_rebuild.specs.declared.job.Job.{Job}
use Rattle.tile_rebuild.specs.declared.job.Job.TheVariants.{Bind, Check}
use Rattle.tile_rebuild.specs.Lines.{AreBitsOf, AreColoursOf}
use Rattle.tile_rebuild.specs.Tiles.{grid_of, part_at, parts_of}
use Rattle.tile_rebuild.specs.Values.{BitJob, ColourJob}
use Rattle.studio_core.specs.Cores.{CoreValue}

-- a job to bind the first tile from `from` on, round the list, that is marked for binding, with the present paper's lines
pub record IsBindTaken (core : CoreValue) (from : ℕ) (job : ColourJob) : Type 0 where
  pub next : IsNext core.bind from job.tile
  pub of_design : job.parts ≡ parts_of core.design
  pub lines : AreColoursOf (part_at (grid_of core.design) job.tile) core.paper job.picks job.columns

-- no tile is marked for binding, and a job to check the first tile that is marked for checking, with the lines of the present bits
pub record IsCheckTaken (core : CoreValue) (from : ℕ) (job : BitJob) : Type 0 where
  pub none : NoneFrom core.bind 0
  pub next : IsNext core.check from job.tile
  pub of_design : job.parts ≡ parts_of core.design
  pub lines : AreBitsOf (part_at (grid_of core.design) job.tile) core.bits job.picks job.columns

-- there is no job exactly where no mark stands
abbrev pub IsTaken : CoreValue → ℕ → Option Job → Type 0
IsTaken core from None = NoneFrom core.bind 0 × NoneFrom core.check 0
IsTaken core from (Some (Bind job)) = IsBindTaken core from job
IsTaken core from (Some (Check job)) = IsCheckTaken core from job
