use Rattle.std.proofs.Common.{◌≡◌, map, take}
use Rattle.mill_io.proofs.held_gate.HeldGate.new.Given as goal

abbrev pub invariant-loop-hold : goal.invariant-loop-hold
invariant-loop-hold l = map (λ watch. watch.hold) l.watches.items ≡ take l.hold-index l.fn.holds.items
