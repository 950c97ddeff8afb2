-- Acts in plain order, by a core that no loom reads.
use Rattle.std.specs.Prelude.{◌≡◌, ℕ, ◌+◌, List, length, map, take, slice_get, Some}
use Rattle.point_paper.specs.Papers.{PaperCells}
use Rattle.draft_model.specs.Designs.{IsPaperOf}
use Rattle.version_journal.specs.Journals.{History, with_motifs}
use Rattle.version_journal.specs.declared.entry.Reply.{Reply}
use Rattle.version_journal.specs.declared.entry.Reply.TheVariants.{Painted, Accepted, Refused}
use Rattle.session_file.specs.Plans.{acts_in, plain_acts}
use Rattle.session_file.specs.declared.session.Session.{Session}
use Rattle.studio_core.specs.Histories.{IsAt}
use Rattle.shift_run.specs.Desks.{history_of}
use Rattle.shift_model.specs.Logs.{named_act}
use Rattle.shift_run.specs.declared.unread.Unread.{Unread}
use Rattle.shift_run.specs.inner.Slots.{AddsSlots, Slot}

-- the paper of the newest version after a commit of a paper
abbrev pub newest_after : Reply → PaperCells → PaperCells → PaperCells
newest_after Painted paper newest = newest
newest_after (Accepted number) paper newest = paper
newest_after (Refused float) paper newest = newest

-- the core is where a history has come to, and the paper is that of its newest version
pub record IsAtUnread (h : History) (unread : Unread) : Type 0 where
  pub at : IsAt h unread.core
  pub newest : slice_get h.versions unread.core.version ≡ Some unread.newest

-- core and paper are of the session's design
pub record CanDo (session : Session) (unread : Unread) : Type 0 where
  pub design : unread.core.design ≡ session.design
  pub paper : IsPaperOf session.design unread.newest

-- the acts of these slots were done, one after another
pub record Does (session : Session) (slots : List Slot) (before after : Unread) : Type 0 where
  pub adds : AddsSlots slots before.core.entries after.core.entries
  pub spare : after.core.spare + length slots ≡ before.core.spare
  pub at : IsAtUnread (history_of session before.core.entries) before → IsAtUnread (history_of session after.core.entries) after
  pub can : CanDo session after

-- all acts of the shifts below k were done in plain order, and there is room for the others
pub record AreDone (session : Session) (k : ℕ) (unread : Unread) : Type 0 where
  pub at : IsAtUnread (history_of session unread.core.entries) unread
  pub can : CanDo session unread
  pub order : map (named_act session) unread.core.entries ≡ with_motifs session.motifs (plain_acts (take k session.shifts))
  pub spare : unread.core.spare + acts_in (take k session.shifts) ≡ acts_in session.shifts
