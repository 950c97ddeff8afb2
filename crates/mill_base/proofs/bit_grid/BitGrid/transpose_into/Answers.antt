use Rattle.std.proofs.Common.{List, Bool, ap, ◌∙◌}
use Rattle.std.proofs.lemmas.List.{with_items_is}
use Rattle.mill_base.specs.Grids.{GridCells}
use Rattle.mill_base.proofs.lemmas.Grids.{turned_is}
use Rattle.mill_base.proofs.bit_grid.BitGrid.transpose_into.Goals as goal

pub returns-clause-columns : goal.returns-clause-columns
returns-clause-columns c =
    ap (λ (rows : List (List Bool)). record { width = c.out.inside.width; rows = rows }) (with_items_is c.out.inside.rows c.turn.new.out (c.turn.ensures.sizes.height ∙ c.deref_mut.ensures.len))
    ∙ turned_is c.args.self.now c.args.out.now c.out.inside.width c.height.result c.deref.result.now c.deref_mut.result.now c.out.inside.rows.items c.turn.new.out c.out.view_is c.out.invariant.1
    c.requires.width c.requires.height (c.deref.ensures.value ∙ ap (λ (g : GridCells). g.rows) c.self.view_is) c.height.ensures c.deref_mut.ensures.value c.turn.ensures
