use Rattle.std.proofs.Common.{◌≡◌, ◌*◌, length}
use Rattle.mill_base.specs.inner.Turnings.{Turned}
use Rattle.mill_base.proofs.row_words.put_turned.Given as goal

abbrev pub invariant-loop-index : goal.invariant-loop-index
invariant-loop-index l = record {
  long : length l.out.items ≡ length l.words;
  turned : Turned l.words l.len l.by l.out.items (64 * l.index);
}
