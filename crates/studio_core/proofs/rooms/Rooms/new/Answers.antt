use Rattle.std.proofs.Common.{false, length, ap, ◌∙◌}
use Rattle.std.proofs.lemmas.List.{length-replicate}
use Rattle.studio_core.proofs.rooms.Rooms.new.Goals as goal

pub returns : goal.returns
returns c =
    let design = c.args.design.now in
    record {
      for_picks = c.in_ok-colours.ensures.picks;
      for_columns = c.in_ok-colours.ensures.columns;
      picks_wide = c.in_ok-lines.ensures.picks.0;
      picks_high = c.in_ok-lines.ensures.picks.1;
      columns_wide = c.in_ok-lines.ensures.columns.0;
      columns_high = c.in_ok-lines.ensures.columns.1;
      for_rows = c.in_ok-rows.ensures;
      for_long = c.in_ok-long.ensures;
      for_cells = c.in_ok-cells.ensures;
      for_row = ap length c.in_ok-row.ensures ∙ length-replicate design.size.columns false;
      for_whole = c.in_ok-whole.ensures;
      for_marked = c.in_ok-marked.ensures;
      for_touched = ap length c.in_ok-touched.ensures ∙ length-replicate c.args.tiles false ∙ c.requires;
      for_near = ap length c.in_ok-near.ensures ∙ length-replicate c.args.tiles false ∙ c.requires;
    }
