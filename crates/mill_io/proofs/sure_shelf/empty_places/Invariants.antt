use Rattle.std.proofs.Common.{◌≡◌, length, All}
use Rattle.mill_io.proofs.sure_shelf.empty_places.Given as goal

abbrev pub invariant-loop : goal.invariant-loop
invariant-loop l = record {
  count : length l.places.items ≡ l.counter;
  room : All (λ place. place.room ≡ l.room) l.places.items;
}
