use Rattle.std.proofs.Common.{◌*◌, ◌-◌, ◌^◌, ◌%◌, eqb-true, eq-eqb}
use Rattle.weave_book.proofs.Blocks.{same_row_from, same_row_to}
use Rattle.weave_book.proofs.rows.same_cells.Goals as goal

pub returns : goal.returns
returns c = (
  λ same. same_row_from c.args.width c.args.one c.args.other c.requires.narrow
      (eqb-true (c.args.one * 2 ^ (64 - c.args.width) % 2 ^ 64) (c.args.other * 2 ^ (64 - c.args.width) % 2 ^ 64) same),
  λ rows. eq-eqb (c.args.one * 2 ^ (64 - c.args.width) % 2 ^ 64) (c.args.other * 2 ^ (64 - c.args.width) % 2 ^ 64)
      (same_row_to c.args.width c.args.one c.args.other c.requires.narrow rows),
)
