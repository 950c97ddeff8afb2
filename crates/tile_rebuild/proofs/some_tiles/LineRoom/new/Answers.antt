use Rattle.std.proofs.Common.{false, length, ap, ◌∙◌}
use Rattle.std.proofs.lemmas.List.{length-replicate}
use Rattle.tile_rebuild.proofs.some_tiles.LineRoom.new.Goals as goal

pub returns : goal.returns
returns c = record {
  columns = ap length c.in_ok-columns.ensures ∙ length-replicate c.args.design.now.size.columns false;
  picks = ap length c.in_ok-picks.ensures ∙ length-replicate c.args.design.now.size.picks false;
  found = ap length c.in_ok-found.ensures ∙ length-replicate c.args.tiles false ∙ c.requires;
}
