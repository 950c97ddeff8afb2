-- The acts of a session as they are done one after another.
use Rattle.std.specs.Prelude.{◌≡◌, ℕ, ◌+◌, ◌*◌, ◌^◌, ◌&&◌, Bool, true, false, not, Option, None, ◌<◌, ◌≤◌, List, ◌++◌, ◌∷◌, [], length, map, slice_index, All}
use Rattle.block_journal.specs.declared.mark.Mark.{Mark}
use Rattle.strokes.specs.Places.{motif_of_act}
use Rattle.strokes.specs.Spans.{PreparedAct}
use Rattle.strokes.specs.declared.act.Act.{Act}
use Rattle.version_journal.specs.Journals.{ActWithMotif, History, history, step}
use Rattle.version_journal.specs.declared.entry.Entry.{Entry}
use Rattle.version_journal.specs.declared.entry.Reply.{Reply}
use Rattle.session_file.specs.Plans.{Fits, acts_in}
use Rattle.session_file.specs.declared.session.Session.{Session}
use Rattle.shift_model.specs.Plans.{acts_of_painter, plan_of}
use Rattle.studio_core.specs.Cores.{CoreValue}
use Rattle.studio_core.specs.Histories.{IsAt}
use Rattle.version_journal.specs.Entries.{is_accepted}
use Rattle.version_keep.specs.Blocks.{acts_below, is_next, marked, marks_of, named, reply_to}

-- the act, prepared for the session's paper, with colours of its book
pub record IsPrepared (session : Session) (act : Act) (prepared : PreparedAct) : Type 0 where
  pub of_act : prepared.act ≡ act
  pub size : prepared.size ≡ session.design.size
  pub motif : prepared.motif ≡ motif_of_act session.motifs act
  pub colours : All (λ span. span.colour < length session.design.book) prepared.spans

-- the mark names an act of the session
pub record IsMarkOf (session : Session) (mark : Mark) : Type 0 where
  pub shift : mark.shift < length session.shifts
  pub painter : mark.painter < length (plan_of session mark.shift).painters
  pub first : 1 ≤ mark.number
  pub last : mark.number ≤ length (acts_of_painter (plan_of session mark.shift) mark.painter)

-- an act as it goes into a history
abbrev pub act_of : PreparedAct → ActWithMotif
act_of act = record { act = act.act; motif = act.motif }

-- wherever the core was in a history, it is there after the act, which has this reply
abbrev pub GoesTo : CoreValue → CoreValue → ActWithMotif → Reply → Type 0
GoesTo before after act reply = (h : History) → IsAt h before
    → IsAt (step before.design h act) after × ((step before.design h act).replies ≡ h.replies ++ reply ∷ [])

-- where the acts of marks have come to
abbrev pub history_of : Session → List Mark → History
history_of session marks = history session.design session.opening (map (named session) marks)

-- for each shift, and for the end, the acts in the shifts below
pub record AreStarts (session : Session) (starts : List ℕ) : Type 0 where
  pub long : length starts ≡ length session.shifts + 1
  pub each : (shift : ℕ) → shift ≤ length session.shifts → slice_index starts shift ≡ acts_below session shift

-- for each shift, 64 painters one after another: how many acts are marked
pub record AreCounts (session : Session) (marks : List Mark) (counts : List ℕ) : Type 0 where
  pub long : length counts ≡ 64 * length session.shifts
  pub each : (shift painter : ℕ) → shift < length session.shifts → painter < 64 → slice_index counts (64 * shift + painter) ≡ marked shift painter marks

-- a core that did acts of a session
pub record IsDoing (session : Session) (core : CoreValue) (counts : List ℕ) : Type 0 where
  pub fits : Fits session
  pub design : core.design ≡ session.design
  pub at : IsAt (history_of session (marks_of core.entries)) core
  pub replied : map (λ entry. entry.reply) core.entries ≡ (history_of session (marks_of core.entries)).replies
  pub room : length core.entries + core.spare ≡ acts_in session.shifts
  pub counted : AreCounts session (marks_of core.entries) counts

-- the last act of a block is an accepted commit, and no other is
abbrev pub ends : Bool → Bool → Bool
ends accepted true = accepted
ends accepted false = not accepted

-- the mark is of a next act, whose reply is that of an accepted commit where it is the last of its block, and else is not
abbrev pub is_taken : Session → List Mark → Mark → Bool → Bool
is_taken session before mark last = is_next session before mark && ends (is_accepted (reply_to session before mark)) last
