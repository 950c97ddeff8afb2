use Rattle.std.proofs.Common.{false, length, refl, ap, ◌∙◌, arith}
use Rattle.std.proofs.lemmas.List.{length-replicate}
use Rattle.tile_grid.proofs.lemmas.Tiles.{tiles_few}
use Rattle.tile_rebuild.specs.Tiles.{grid_of}
use Rattle.tile_rebuild.proofs.lemmas.Designs.{grid_there}
use Rattle.tile_rebuild.proofs.lemmas.SomeTiles.{lines_all, lines_more}
use Rattle.tile_rebuild.proofs.some_tiles.find_lines.Goals as goal

pub overflow_add-from : goal.overflow_add-from
overflow_add-from c =
    let few = tiles_few (grid_of c.args.design.now) (grid_there c.args.design.now c.requires.fits) in
    let h = c.in-Some.ensures.some.within in
    omega (arith, c.requires.tiles)

pub loop-tile-init : goal.loop-tile-init
loop-tile-init c = record {
  bound = omega arith;
  columns_long = ap length c.fill.ensures ∙ length-replicate (length c.args.columns.now) false;
  picks_long = ap length c.fill-2.ensures ∙ length-replicate (length c.args.picks.now) false;
  lines = λ x p hx hp low. absurd (omega arith);
}

pub loop-tile-preserved : goal.loop-tile-preserved
loop-tile-preserved c =
    let first = c.in-Some.ensures.some in
    record {
      bound = (let h = first.within in omega arith);
      columns_long = c.add_span.ensures.len ∙ c.loop-tile.invariant.columns_long;
      picks_long = c.add_span-in-Some.ensures.len ∙ c.loop-tile.invariant.picks_long;
      lines = lines_more c.args.design.now c.args.tiles.now c.loop-tile.columns c.loop-tile.picks c.add_span.new.row c.add_span-in-Some.new.row c.loop-tile.from c.in-Some.tile c.part_of-part.result c.requires.fits
          c.part_of-part.ensures.part first (record { here = c.add_span.ensures.here; others = c.add_span.ensures.others })
          (record { here = c.add_span-in-Some.ensures.here; others = c.add_span-in-Some.ensures.others }) c.loop-tile.invariant.lines;
    }

pub returns-clause-lines : goal.returns-clause-lines
returns-clause-lines c =
    lines_all c.args.design.now c.args.tiles.now c.loop-tile.columns c.loop-tile.picks c.loop-tile.from c.loop-tile.invariant.lines (c.in_default.ensures.none refl)
