use Rattle.std.proofs.Common.{sym, subst, ◌∙◌}
use Rattle.tile_rebuild.specs.declared.parts.Parts.{Parts}
use Rattle.tile_rebuild.specs.inner.Kept.{IsBindReady}
use Rattle.tile_rebuild.proofs.lemmas.Kept.{room_for, weaves_of_paper}
use Rattle.tile_rebuild.proofs.bind_job.BindJob.take.Goals as goal

pub invariant_of-result : goal.invariant_of-result
invariant_of-result g c =
    let design = c.args.design.now in
    let part = c.part_of-part.result in
    let along = c.copy.new.self.picks.items in
    let up = c.copy.new.self.columns.items in
    subst (λ (p : Parts). IsBindReady p c.args.tile part along up c.in_ok-rows.rows c.in_ok-room.room c.in_ok-cells.cells) (sym c.in_ok-parts.ensures)
    (record {
      of_tile = record {
        there = c.requires.tile;
        place = c.part_of-part.ensures.part;
        inside = c.part_of-part.ensures.inside;
        wide = c.part_of-part.ensures.wide;
        high = c.part_of-part.ensures.high;
      };
      for_lines = room_for design.size.columns design.size.picks design.tile part along up c.part_of-part.ensures.wide c.part_of-part.ensures.high (c.copy.ensures.picks ∙ c.in_ok-lines.ensures.picks)
          (c.copy.ensures.columns ∙ c.in_ok-lines.ensures.columns);
      with_weaves = weaves_of_paper design c.args.paper.now part along up c.requires.paper c.part_of-part.ensures.inside c.copy.ensures.lines;
      for_rows = c.in_ok-rows.ensures;
      for_long = c.in_ok-room.ensures;
      for_cells = c.in_ok-cells.ensures;
    })
