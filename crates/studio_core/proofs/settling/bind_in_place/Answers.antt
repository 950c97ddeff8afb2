use Rattle.std.proofs.Common.{List, Bool, sym, subst}
use Rattle.studio_core.specs.Cores.{AreCells}
use Rattle.studio_core.proofs.Central.{bound_put}
use Rattle.studio_core.proofs.settling.bind_in_place.Goals as goal

pub returns-clause-cells : goal.returns-clause-cells
returns-clause-cells g c =
    let design = c.args.design.now in
    let paper = c.args.paper.now in
    subst (λ (marks : List Bool). AreCells design paper c.put_cells.new.bits marks) (sym c.clear.ensures)
    (bound_put design c.args.tile c.part_of-part.result paper c.args.bits.now c.put_cells.new.bits c.copy.new.self.picks.items c.copy.new.self.columns.items c.args.bind.now c.bind_tile.new.cells c.requires.fits
    c.part_of-part.ensures.part c.requires.paper c.requires.cells c.bind_tile.ensures.bound c.copy.ensures.lines c.put_cells.ensures.cells)
