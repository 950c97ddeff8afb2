-- A run by hand: two shifts of one commit each, on a paper of one pick, with one loom that weaves one repeat in each shift.
use Rattle.std.specs.Prelude.{List, [], ◌∷◌, None}
use Rattle.mill_base.specs.declared.face.Face.{Face}
use Rattle.point_paper.specs.Papers.{PaperCells}
use Rattle.strokes.specs.Cells.{no_motif}
use Rattle.strokes.specs.declared.act.Act.TheVariants.{Commit}
use Rattle.draft_model.specs.declared.design.Design.{Design}
use Rattle.version_journal.specs.Journals.{ActWithMotif}
use Rattle.version_journal.specs.declared.entry.Entry.{Entry}
use Rattle.version_journal.specs.declared.entry.Reply.TheVariants.{Accepted}
use Rattle.session_file.specs.declared.session.ShiftPlan.{ShiftPlan}
use Rattle.shift_model.specs.Steps.{Event, Do, Take, Give, Publish, Begin, Pick, Cut, World, row_of}

abbrev pub a_commit : ActWithMotif
a_commit = record { act = Commit; motif = no_motif }

-- In the first shift version 1 cannot be begun before it is published, is published once, and cannot be begun while a repeat is open; and
-- the shift does not end before that repeat. In the second shift version 0 is too old, and the shift does not end before version 2 is
-- published.
abbrev pub worked_events : List Event
worked_events =
    Take 0 ∷ Do a_commit ∷ Begin 0 1 ∷ Begin 0 0 ∷ Publish ∷ Publish ∷ Begin 0 1 ∷ Cut ∷ Pick 0 ∷ Give 0 ∷ Cut
    ∷ Begin 0 0 ∷ Do a_commit ∷ Cut ∷ Begin 0 1 ∷ Publish ∷ Pick 0 ∷ Cut ∷ []

-- the world that they lead to: the repeats are of versions 0 and 1
abbrev pub worked_world : Design → PaperCells → Face → World
worked_world design opening face = record {
  acts = a_commit ∷ a_commit ∷ [];
  history = record { paper = opening; replies = Accepted 1 ∷ Accepted 2 ∷ []; versions = opening ∷ opening ∷ opening ∷ [] };
  published = 2;
  looms = record {
    floor = 2;
    ended = record { shift = 0; version = 0; rows = row_of design face opening 0 ∷ [] } ∷ record { shift = 1; version = 1; rows = row_of design face opening 0 ∷ [] } ∷ [];
    unfinished = None;
  } ∷ [];
  results = record { tile = 0; paper = opening } ∷ [];
  cuts = 1 ∷ 2 ∷ [];
}

-- the plan of each of the two shifts, and the entries of the two acts
abbrev pub worked_plan : ShiftPlan
worked_plan = record { repeats = 1 ∷ []; painters = (Commit ∷ []) ∷ [] }

abbrev pub worked_entries : List Entry
worked_entries =
    record { shift = 0; painter = 0; number = 1; reply = Accepted 1 } ∷ record { shift = 1; painter = 0; number = 1; reply = Accepted 2 } ∷ []
