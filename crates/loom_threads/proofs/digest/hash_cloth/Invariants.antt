use Rattle.std.proofs.Common.{◌≡◌, ◌+◌, ◌/◌, length, map, take}
use Rattle.std.specs.List.{concat}
use Rattle.sha2.specs.Hashers.{Holds256}
use Rattle.mill_base.specs.Bits.{packed}
use Rattle.loom_threads.proofs.digest.hash_cloth.Given as goal

abbrev pub invariant-loop-pick : goal.invariant-loop-pick
invariant-loop-pick l = record {
  room : length l.bytes.items ≡ (l.cloth.ends + 7) / 8;
  hashed : Holds256 l.hasher (concat (map packed (take l.pick l.cloth.rows)));
}
