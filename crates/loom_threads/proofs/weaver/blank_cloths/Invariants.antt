use Rattle.std.proofs.Common.{◌≡◌, ◌≤◌, length}
use Rattle.std.specs.Prelude.{All}
use Rattle.std.specs.Vec.{vec_capacity}
use Rattle.loom_threads.specs.inner.Weavers.{HasSize}
use Rattle.loom_threads.proofs.weaver.blank_cloths.Given as goal

abbrev pub invariant-cloths : goal.invariant-cloths
invariant-cloths l = record {
  count : length l.cloths.items ≡ l.counter;
  room : l.count ≤ vec_capacity l.cloths;
  sizes : All (HasSize l.ends l.picks) l.cloths.items;
}
