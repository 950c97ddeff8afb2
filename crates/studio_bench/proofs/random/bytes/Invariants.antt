use Rattle.std.proofs.Common.{◌≡◌, ◌<◌, length, All}
use Rattle.studio_bench.proofs.random.bytes.Given as goal

abbrev pub invariant-loop-count : goal.invariant-loop-count
invariant-loop-count l = (length l.bytes.items ≡ l.count) × All (λ byte. byte < l.below) l.bytes.items
