use Rattle.std.proofs.Common.{◌≡◌, length}
use Rattle.shed_rows.proofs.looms.cards.Given as goal

abbrev pub invariant-loop-column : goal.invariant-loop-column
invariant-loop-column l = record {
  columns : l.bits.columns ≡ l.design.size.columns;
  picks : length l.bits.rows ≡ l.design.size.picks;
}
