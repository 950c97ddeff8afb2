-- What an act does at a desk.
use Rattle.std.specs.Prelude.{◌≡◌, ℕ, ◌+◌, ◌<◌, ◌||◌, ◌⊎◌, true, false, List, [], ◌∷◌, ◌++◌, slice_index_or, None, if◌then◌else◌}
use Rattle.point_paper.specs.Papers.{PaperCells}
use Rattle.draft_model.specs.Drawdowns.{bound}
use Rattle.strokes.specs.Paints.{after}
use Rattle.strokes.specs.Spans.{PreparedAct}
use Rattle.version_journal.specs.Journals.{ActWithMotif, History, committed, float_kept, is_commit, reply_to_commit, step}
use Rattle.version_journal.specs.declared.entry.Entry.{Entry}
use Rattle.version_journal.specs.declared.entry.Reply.{Reply}
use Rattle.version_journal.specs.declared.entry.Reply.TheVariants.{Painted, Accepted, Refused}
use Rattle.shed_publish.specs.declared.newest.Version.{Version}
use Rattle.tile_grid.specs.Tiles.{tiles}
use Rattle.tile_marks.specs.Marks.{NoneFrom}
use Rattle.tile_rebuild.specs.Tiles.{grid_of}
use Rattle.card_image.specs.Sets.{cards_of}
use Rattle.studio_core.specs.Cores.{CoreValue}
use Rattle.studio_core.specs.Histories.{IsAt}
use Rattle.studio_core.specs.Touches.{bind_tiles, check_tiles}
use Rattle.shift_run.specs.declared.desk.Desk.{Desk}

-- the reply to an act
abbrev pub reply_of : CoreValue → PreparedAct → Reply
reply_of core act = if is_commit act.act then reply_to_commit (core.version + 1) (float_kept core.design core.paper) else Painted

-- the paper after an act
abbrev pub paper_of : CoreValue → PreparedAct → PaperCells
paper_of core act = if is_commit act.act then core.paper else after act.motif core.paper act.act

-- an act as it goes into a history
abbrev pub act_of : PreparedAct → ActWithMotif
act_of act = record { act = act.act; motif = act.motif }

-- an accepted commit makes the next version, with the cards of the paper; another act leaves version and cards
abbrev pub MakesNewest : Reply → CoreValue → CoreValue → Type 0
MakesNewest Painted before after = (after.version ≡ before.version) × (after.cards ≡ before.cards)
MakesNewest (Accepted number) before after = (after.version ≡ before.version + 1) × (after.cards ≡ cards_of before.design before.paper)
MakesNewest (Refused float) before after = (after.version ≡ before.version) × (after.cards ≡ before.cards)

-- the published list after a reply: an accepted version is added with its cards
abbrev pub list_after : Reply → CoreValue → List Version → List Version
list_after Painted core list = list
list_after (Accepted number) core list = list ++ record { version = core.version; cards = core.cards } ∷ []
list_after (Refused float) core list = list

-- wherever the core was in a history, it is there after the act, which has this reply
abbrev pub GoesTo : CoreValue → CoreValue → ActWithMotif → Reply → Type 0
GoesTo before after act reply = (h : History) → IsAt h before
    → IsAt (step before.design h act) after × ((step before.design h act).replies ≡ h.replies ++ reply ∷ [])

-- wherever the core was in a history, it is there after a commit, which has this reply
abbrev pub Commits : CoreValue → CoreValue → Reply → Type 0
Commits before after reply = (h : History) → IsAt h before
    → IsAt (committed before.design h) after × ((committed before.design h).replies ≡ h.replies ++ reply ∷ [])

-- A paint marks for binding the tiles near those that it touches, and for checking those near these; no cell and no flag changes. After a
-- commit no tile is marked, and the cells are the bound ones.
pub record AreMarked (act : PreparedAct) (before after : CoreValue) : Type 0 where
  pub bind : is_commit act.act ≡ false → (u : ℕ) → u < tiles (grid_of before.design)
      → slice_index_or after.bind u false ≡ (slice_index_or before.bind u false || bind_tiles (grid_of before.design) act.motif act.size act.act u)
  pub check : is_commit act.act ≡ false → (u : ℕ) → u < tiles (grid_of before.design)
      → slice_index_or after.check u false ≡ (slice_index_or before.check u false || check_tiles (grid_of before.design) act.motif act.size act.act u)
  pub bits : is_commit act.act ≡ false → (after.bits ≡ before.bits) × (after.flags ≡ before.flags)
  pub settled : is_commit act.act ≡ true → NoneFrom after.bind 0 × NoneFrom after.check 0 × (after.bits ≡ bound before.design before.paper)

-- Memory was refused before the act was replied to: all stays, but that marked tiles are rebuilt.
pub record IsUnanswered (before after : Desk) : Type 0 where
  pub core : after.core
      ≡ record before.core { bits = after.core.bits; bind = after.core.bind; check = after.core.check; flags = after.core.flags }
  pub end : after.end ≡ before.end

-- Memory was refused after the act, a commit, was accepted: its version alone is not published.
pub record IsUnshown (entry : Entry) (before after : Desk) : Type 0 where
  pub reply : entry.reply ≡ Accepted (before.core.version + 1)
  pub kept : float_kept before.core.design before.core.paper ≡ None
  pub core : after.core ≡ record before.core {
    entries = before.core.entries ++ entry ∷ [];
    spare = after.core.spare;
    version = before.core.version + 1;
    cards = cards_of before.core.design before.core.paper;
    bits = after.core.bits;
    bind = after.core.bind;
    check = after.core.check;
    flags = after.core.flags;
  }
  pub spare : after.core.spare + 1 ≡ before.core.spare
  pub at : Commits before.core after.core entry.reply
  pub end : after.end ≡ before.end

-- what a desk is where memory was refused in an act of a painter
abbrev pub IsLeft : Entry → Desk → Desk → Type 0
IsLeft entry before after = IsUnanswered before after ⊎ IsUnshown entry before after
