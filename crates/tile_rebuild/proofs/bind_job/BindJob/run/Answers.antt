use Rattle.std.proofs.Common.{◌≡◌, sym, ap, subst, ◌∙◌}
use Rattle.tile_rebuild.specs.declared.parts.Parts.{Parts}
use Rattle.tile_rebuild.specs.Rebuilds.{IsTileRoom}
use Rattle.tile_rebuild.specs.Tiles.{parts_of}
use Rattle.tile_rebuild.specs.Values.{ColourJob}
use Rattle.tile_rebuild.proofs.lemmas.Kept.{bound_of_parts}
use Rattle.tile_rebuild.proofs.bind_job.BindJob.run.Goals as goal

pub invariant_of-result : goal.invariant_of-result
invariant_of-result c =
    let inside = c.self.inside in
    let is = c.self.invariant in
    let cells = c.bind_tile.new.cells in
    let same : inside.parts ≡ parts_of c.args.design.now = ap (λ (j : ColourJob). j.parts) c.self.view_is ∙ c.requires.of in
    record {
      of_tile = is.of_tile;
      for_lines = is.for_lines;
      for_cells = subst (λ (p : Parts). IsTileRoom p cells) (sym same) c.bind_tile.ensures.cells;
      is_right = record {
        there = is.of_tile.there;
        place = is.of_tile.place;
        right = λ design fits e. bound_of_parts c.args.design.now design inside.tile inside.lines.picks.items inside.lines.columns.items cells (e ∙ same) c.bind_tile.ensures.bound;
      };
    }
