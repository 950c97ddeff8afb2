-- What a job keeps, whether it binds or checks.
use Rattle.std.specs.Prelude.{ℕ, Option, Some, None}
use Rattle.tile_rebuild.specs.declared.parts.Parts.{Parts}
use Rattle.tile_rebuild.specs.declared.job.Job.{Job}
use Rattle.tile_rebuild.specs.declared.job.Job.TheVariants.{Bind, Check}
use Rattle.tile_rebuild.specs.Lines.{Colours, Bits}

abbrev pub job_parts : Job → Parts
job_parts (Bind job) = job.parts
job_parts (Check job) = job.parts

abbrev pub job_tile : Job → ℕ
job_tile (Bind job) = job.tile
job_tile (Check job) = job.tile

-- the lines of a tile to bind, and those of a tile to check
abbrev pub job_colours : Job → Option Colours
job_colours (Bind job) = Some (record { picks = job.picks; columns = job.columns })
job_colours (Check job) = None

abbrev pub job_bits : Job → Option Bits
job_bits (Bind job) = None
job_bits (Check job) = Some (record { picks = job.picks; columns = job.columns })
