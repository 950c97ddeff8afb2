use Rattle.std.proofs.Common.{◌≡◌, length}
use Rattle.card_rows.proofs.cards.marked.Given as goal

abbrev pub invariant-loop-pick : goal.invariant-loop-pick
invariant-loop-pick l = (l.bits.columns ≡ l.size.columns) × (length l.bits.rows ≡ l.size.picks)
