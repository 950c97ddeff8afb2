-- What the fields of the ends mean.
use Rattle.std.specs.Prelude.{[], MatchOption}
use Rattle.std.specs.Option.{option_map_or}
use Rattle.left_right.specs.Sides.{view}
use Rattle.shed_publish.specs.inner.Writers.{IsWriter, list_of}
use Rattle.shed_publish.specs.Ends.{DeskValue, EndValue}
use Rattle.shed_publish.specs.declared.board.Board.{Board}
use Rattle.shed_publish.specs.declared.board.View.{View}
use Rattle.shed_publish.specs.declared.desk_end.DeskEnd.TheInside as desk
use Rattle.shed_publish.specs.declared.loom_end.LoomEnd.TheInside as loom

abbrev pub desk_of : desk.Inside → DeskValue
desk_of d = record {
  list = option_map_or list_of d.writer [];
  refused = d.refused;
}

abbrev pub IsDesk : desk.Inside → Type 0
IsDesk d = MatchOption d.writer ⊥ IsWriter

abbrev pub end_of : loom.Inside → EndValue
end_of e = record {
  list = option_map_or (λ r. (view {T = Board} {V = View} r.place).seen) e.reader [];
  learnt = option_map_or (λ r. (view {T = Board} {V = View} r.place).learnt) e.reader [];
  readings = e.readings;
  missed = e.missed;
}
