-- The desk: a core with the published list of its versions.
use Rattle.std.specs.Prelude.{◌≡◌, ℕ, ◌+◌, ◌<◌, ◌≤◌, false, List, [], ◌∷◌, ◌++◌, length, map, replicate, slice_index, All}
use Rattle.std.specs.List.{range_with_len}
use Rattle.point_paper.specs.Papers.{PaperCells}
use Rattle.draft_model.specs.Drawdowns.{bound}
use Rattle.draft_model.specs.declared.design.Design.{Design}
use Rattle.card_image.specs.Sets.{cards_of, design_by}
use Rattle.version_journal.specs.Journals.{History, history}
use Rattle.version_journal.specs.declared.entry.Entry.{Entry}
use Rattle.session_file.specs.Plans.{acts_in}
use Rattle.session_file.specs.declared.session.Session.{Session}
use Rattle.session_file.specs.declared.session.ShiftPlan.{ShiftPlan}
use Rattle.shed_publish.specs.Versions.{IsPublished}
use Rattle.shed_publish.specs.declared.newest.Version.{Version}
use Rattle.tile_grid.specs.Tiles.{tiles}
use Rattle.tile_rebuild.specs.Tiles.{grid_of}
use Rattle.studio_core.specs.Cores.{CoreValue}
use Rattle.studio_core.specs.Histories.{IsAt}
use Rattle.shift_model.specs.Logs.{named_act, numbers_of_painter}
use Rattle.shift_model.specs.Plans.{acts_of_painter, plan_of}
use Rattle.shift_run.specs.declared.desk.Desk.{Desk}

-- where the acts of these entries have come to
abbrev pub history_of : Session → List Entry → History
history_of session entries = history session.design session.opening (map (named_act session) entries)

-- papers as published versions with their cards, numbered from n on
abbrev pub numbered : Design → ℕ → List PaperCells → List Version
numbered design n [] = []
numbered design n (paper ∷ papers) = record { version = n; cards = cards_of design paper } ∷ numbered design (n + 1) papers

-- all versions that a desk has come to, as they are published
abbrev pub versions_of : Session → Desk → List Version
versions_of session desk = numbered session.design 0 (history_of session desk.core.entries).versions

-- the desk is one of the session, and its core is where the entries leave it
pub record Holds (session : Session) (desk : Desk) : Type 0 where
  pub design : desk.core.design ≡ session.design
  pub at : IsAt (history_of session desk.core.entries) desk.core
  pub replied : map (λ entry. entry.reply) desk.core.entries ≡ (history_of session desk.core.entries).replies

-- and all its versions are published
pub record Stands (session : Session) (desk : Desk) : Type 0 where
  pub holds : Holds session desk
  pub shown : desk.end.list ≡ versions_of session desk

-- its versions are published, all but at most the last one
pub record NearlyShown (session : Session) (desk : Desk) : Type 0 where
  pub last : List Version
  pub few : length last ≤ 1
  pub shown : versions_of session desk ≡ desk.end.list ++ last

-- so many acts of each painter of a plan were done, in their order
pub record IsUnder (plan : ShiftPlan) (done : List ℕ) (entries : List Entry) : Type 0 where
  pub painters : All (λ entry. entry.painter < length plan.painters) entries
  pub numbers : (painter : ℕ) → painter < length plan.painters → numbers_of_painter painter entries ≡ range_with_len 1 (slice_index done painter)

-- acts of a shift were added, perhaps not all: of each painter the first ones, in their order, and all replies are those of the acts
pub record AddsSome (session : Session) (k : ℕ) (before after : List Entry) : Type 0 where
  pub new : List Entry
  pub are : after ≡ before ++ new
  pub of_shift : All (λ entry. entry.shift ≡ k) new
  pub done : List ℕ
  pub within : (painter : ℕ) → slice_index done painter ≤ length (acts_of_painter (plan_of session k) painter)
  pub under : IsUnder (plan_of session k) done new
  pub replied : map (λ entry. entry.reply) after ≡ (history_of session after).replies

-- the published list of a desk is one of versions of its design, up to the newest version or the one before it
pub record IsDesk (desk : Desk) : Type 0 where
  pub published : IsPublished desk.end.list
  pub some : 0 < length desk.end.list
  pub cards : All (λ version. version.cards.design ≡ design_by desk.core.design.casting desk.core.design.size.picks) desk.end.list
  pub reached : desk.core.version ≤ length desk.end.list
  pub no_more : length desk.end.list ≤ desk.core.version + 1

-- the newest version is not published
abbrev pub IsUnpublished : Desk → Type 0
IsUnpublished desk = length desk.end.list ≤ desk.core.version

-- a desk with all versions published
pub record IsReady (desk : Desk) : Type 0 where
  pub of_desk : IsDesk desk
  pub published : desk.core.version < length desk.end.list

-- the core of a session before the first act, with room for its acts and so many more
abbrev pub new_core : Session → ℕ → CoreValue
new_core session spare = record {
  design = session.design;
  paper = session.opening;
  entries = [];
  spare = acts_in session.shifts + spare;
  version = 0;
  cards = cards_of session.design session.opening;
  bits = bound session.design session.opening;
  bind = replicate (tiles (grid_of session.design)) false;
  check = replicate (tiles (grid_of session.design)) false;
  flags = replicate (tiles (grid_of session.design)) false;
  installed = 0;
}

-- the list that is published before the first act: the opening as version 0
abbrev pub new_list : Session → List Version
new_list session = record { version = 0; cards = cards_of session.design session.opening } ∷ []
