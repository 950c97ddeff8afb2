-- The plan of a shift, the acts of a painter, and the plain order of a session: shift by shift, in a shift painter by painter, and of a
-- painter act by act.
use Rattle.std.specs.Prelude.{◌≡◌, ℕ, ◌-◌, List, [], length, slice_get, slice_index_or, Some}
use Rattle.point_paper.specs.Papers.{PaperCells}
use Rattle.strokes.specs.declared.act.Act.{Act}
use Rattle.version_journal.specs.Journals.{ActWithMotif, versions, with_motifs}
use Rattle.session_file.specs.Plans.{plain_acts}
use Rattle.session_file.specs.declared.session.Session.{Session}
use Rattle.session_file.specs.declared.session.ShiftPlan.{ShiftPlan}

abbrev pub plan_of : Session → ℕ → ShiftPlan
plan_of session shift = slice_index_or session.shifts shift (record { repeats = []; painters = [] })

-- the acts of a painter in a shift, in order
abbrev pub acts_of_painter : ShiftPlan → ℕ → List Act
acts_of_painter plan painter = slice_index_or plan.painters painter []

-- the acts of a session in plain order, each with the cells of its motif
abbrev pub plain_order : Session → List ActWithMotif
plain_order session = with_motifs session.motifs (plain_acts session.shifts)

-- the versions that these acts make
abbrev pub plain_versions : Session → List PaperCells
plain_versions session = versions session.design session.opening (plain_order session)

-- the newest of these versions
abbrev pub IsNewest : List PaperCells → PaperCells → Type 0
IsNewest versions paper = slice_get versions (length versions - 1) ≡ Some paper
