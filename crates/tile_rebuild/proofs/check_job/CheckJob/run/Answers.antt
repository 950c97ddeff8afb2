use Rattle.std.proofs.Common.{◌≡◌, ap, ◌∙◌}
use Rattle.tile_rebuild.specs.Tiles.{parts_of}
use Rattle.tile_rebuild.specs.Values.{BitJob}
use Rattle.tile_rebuild.proofs.lemmas.Kept.{flag_of_parts}
use Rattle.tile_rebuild.proofs.check_job.CheckJob.run.Goals as goal

pub invariant_of-result : goal.invariant_of-result
invariant_of-result c =
    let inside = c.self.inside in
    let is = c.self.invariant in
    let same : inside.parts ≡ parts_of c.args.design.now = ap (λ (j : BitJob). j.parts) c.self.view_is ∙ c.requires.of in
    record {
      of_tile = is.of_tile;
      for_lines = is.for_lines;
      is_right = record {
        there = is.of_tile.there;
        place = is.of_tile.place;
        right = λ design fits e. flag_of_parts c.args.design.now design inside.tile inside.lines.picks inside.lines.columns c.check_tile-long.result (e ∙ same) c.check_tile-long.ensures.flag;
      };
    }
