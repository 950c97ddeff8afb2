use Rattle.tile_rebuild.proofs.lemmas.Lists.{colours_read}
use Rattle.tile_rebuild.proofs.colour_lines.ColourLines.copy.Goals as goal

pub returns-clause-lines : goal.returns-clause-lines
returns-clause-lines g c =
    colours_read c.args.part c.args.paper.now c.size-columns.result c.copy_lines.new.out.items c.copy_lines-2.new.out.items c.size-columns.ensures.size c.copy_lines.ensures.cells c.copy_lines-2.ensures.cells
