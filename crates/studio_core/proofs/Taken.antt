-- Jobs that are taken of a core.
use Rattle.std.proofs.Common.{◌≡◌, ℕ, sym, subst}
use Rattle.tile_marks.specs.Marks.{IsNext, NoneFrom}
use Rattle.tile_rebuild.specs.Lines.{AreBitsOf, AreColoursOf}
use Rattle.tile_rebuild.specs.Tiles.{grid_of, part_at, parts_of}
use Rattle.tile_rebuild.specs.Values.{BitJob, ColourJob}
use Rattle.studio_core.specs.Cores.{CoreValue}
use Rattle.studio_core.specs.Takes.{IsBindTaken, IsCheckTaken}

pub bind_taken : (core : CoreValue) (from tile : ℕ) (job : ColourJob) → IsNext core.bind from tile → job.parts ≡ parts_of core.design → job.tile ≡ tile
    → AreColoursOf (part_at (grid_of core.design) tile) core.paper job.picks job.columns → IsBindTaken core from job
bind_taken core from tile job next of is lines = record {
  next = subst (λ n. IsNext core.bind from n) (sym is) next;
  of_design = of;
  lines = subst (λ n. AreColoursOf (part_at (grid_of core.design) n) core.paper job.picks job.columns) (sym is) lines;
}

pub check_taken : (core : CoreValue) (from tile : ℕ) (job : BitJob) → NoneFrom core.bind 0 → IsNext core.check from tile → job.parts ≡ parts_of core.design → job.tile ≡ tile
    → AreBitsOf (part_at (grid_of core.design) tile) core.bits job.picks job.columns → IsCheckTaken core from job
check_taken core from tile job none next of is lines = record {
  none = none;
  next = subst (λ n. IsNext core.check from n) (sym is) next;
  of_design = of;
  lines = subst (λ n. AreBitsOf (part_at (grid_of core.design) n) core.bits job.picks job.columns) (sym is) lines;
}
