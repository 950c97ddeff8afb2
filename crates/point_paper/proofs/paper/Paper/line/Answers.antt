use Rattle.std.proofs.Common.{◌+◌, ◌*◌, ℕ, List, get_or, length, ap, ◌∙◌, arith}
use Rattle.point_paper.proofs.lemmas.Cells.{pick_read, column_read}
use Rattle.point_paper.proofs.paper.Paper.line.Goals as goal

pub returns-in-Pick-clause-cells : goal.returns-in-Pick-clause-cells
returns-in-Pick-clause-cells g c =
    rw c.in-Pick.is (pick_read c.self.inside.size.columns c.self.inside.size.picks c.self.inside.colours.items c.args.self.now c.args.index (length c.args.out.now) c.copy_pick.new.out
    c.self.view_is c.self.invariant (rw c.in-Pick.is at c.requires.index) (rw c.in-Pick.is at c.requires.out) (rw c.deref.ensures.value at c.copy_pick.ensures))

pub returns-in-Column-clause-cells : goal.returns-in-Column-clause-cells
returns-in-Column-clause-cells g c =
    rw c.in-Column.is (column_read c.self.inside.size.columns c.self.inside.size.picks c.self.inside.colours.items c.args.self.now c.args.index c.copy_column.new.out
    c.self.view_is (c.copy_column.auto.out ∙ (rw c.in-Column.is at c.requires.out)) (λ pick h.
    c.copy_column.ensures pick (omega (arith, c.copy_column.auto.out, h))
    ∙ ap (λ (colours : List ℕ). get_or colours (pick * c.self.inside.size.columns + c.args.index) 0) c.deref-in-Column.ensures.value))
