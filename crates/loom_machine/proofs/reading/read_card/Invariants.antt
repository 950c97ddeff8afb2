use Rattle.std.proofs.Common.{◌≡◌, ◌*◌, length}
use Rattle.loom_machine.proofs.ReadCards.{AreRead}
use Rattle.loom_machine.proofs.reading.read_card.Given as goal

abbrev pub invariant-loop-index : goal.invariant-loop-index
invariant-loop-index l = record {
  len : length l.hooks ≡ length l.fn.hooks;
  done : AreRead l.hooks l.card (64 * l.index);
}
