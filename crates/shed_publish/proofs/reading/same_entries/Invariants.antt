use Rattle.shed_publish.specs.Versions.{version_of}
use Rattle.std.proofs.Common.{◌≡◌, map, take, length}
use Rattle.shed_publish.proofs.reading.same_entries.Given as goal

abbrev pub invariant-loop-k : goal.invariant-loop-k
invariant-loop-k l = (length l.one ≡ length l.other) × (map version_of (take l.k l.one) ≡ map version_of (take l.k l.other))
