use Rattle.std.proofs.Common.{◌≡◌, ◌*◌, ◌≤◌}
use Rattle.mill_base.proofs.lemmas.BitCounts.{counted}
use Rattle.mill_base.proofs.row_words.count_all.Given as goal

abbrev pub invariant-loop-index : goal.invariant-loop-index
invariant-loop-index l = record {
  bound : l.total ≤ 64 * l.index;
  counted : l.total ≡ counted l.words (64 * l.index);
}
