-- What a desk answers a loom that asks for a place.
use Rattle.std.specs.Prelude.{◌≡◌, ℕ}
use Rattle.mill_base.specs.Causes.{Rose}
use Rattle.shed_publish.specs.Ends.{new_end}
use Rattle.shed_publish.specs.declared.desk_end.Seat.{Seat}
use Rattle.shed_publish.specs.declared.desk_end.Seat.TheVariants.{Reads, Later}

-- a place is given to a new end; none is given only where the count of refused places rose
abbrev pub SeatOf : ℕ → ℕ → Seat → Type 0
SeatOf before now (Reads end) = (end ≡ new_end) × (now ≡ before)
SeatOf before now Later = Rose before now
