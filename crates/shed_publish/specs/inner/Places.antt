-- What the place of a reader tells of what its end has seen.
use Rattle.left_right.specs.Sides.{view}
use Rattle.std.specs.Prelude.{Option}
use Rattle.atomic_table.specs.declared.shared.Seat.{Seat}
use Rattle.left_right.specs.declared.part.Part.{Part}
use Rattle.left_right.specs.declared.board.Doing.{Doing}
use Rattle.shed_publish.specs.Ends.{EndValue}
use Rattle.shed_publish.specs.declared.board.Board.{Board}
use Rattle.shed_publish.specs.declared.board.View.{View}

-- an end at this place, before its first reading is counted
abbrev pub seen_at : Seat (Option (Part Board)) (Doing Board View) → EndValue
seen_at place = record {
  list = (view {T = Board} {V = View} place).seen;
  learnt = (view {T = Board} {V = View} place).learnt;
  readings = 0;
  missed = 0;
}
