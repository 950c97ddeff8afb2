-- The foreman's part of a shift.
use Rattle.std.specs.Prelude.{◌≡◌, ℕ, ◌+◌, ◌<◌, ◌≤◌, Bool, MatchBool, List, ◌++◌, length, slice_index, slice_index_or, sum, sum_by, All}
use Rattle.strokes.specs.Places.{motif_of_act}
use Rattle.strokes.specs.Spans.{PreparedAct}
use Rattle.strokes.specs.declared.act.Act.{Act}
use Rattle.strokes.specs.declared.act.Act.TheVariants.{Commit}
use Rattle.version_journal.specs.declared.entry.Entry.{Entry}
use Rattle.session_file.specs.Plans.{Fits}
use Rattle.session_file.specs.declared.session.Session.{Session}
use Rattle.shift_run.specs.Desks.{AddsSome, Holds, IsDesk, IsReady, IsUnder, NearlyShown, Stands}
use Rattle.shift_model.specs.Plans.{acts_of_painter, plan_of}
use Rattle.shift_run.specs.inner.Adds.{AddsEntries}
use Rattle.shift_run.specs.declared.desk.Desk.{Desk}

-- how many acts the painters of a shift have
abbrev pub acts_of_shift : Session → ℕ → ℕ
acts_of_shift session k = sum_by length (plan_of session k).painters

-- the act of a painter at a place among its acts of a shift, from 0 on
abbrev pub act_at : Session → ℕ → ℕ → ℕ → Act
act_at session k painter place = slice_index_or (acts_of_painter (plan_of session k) painter) place Commit

-- the act, prepared for the session's paper, with colours of its book
pub record IsPrepared (session : Session) (act : Act) (prepared : PreparedAct) : Type 0 where
  pub of_act : prepared.act ≡ act
  pub size : prepared.size ≡ session.design.size
  pub motif : prepared.motif ≡ motif_of_act session.motifs act
  pub colours : All (λ span. span.colour < length session.design.book) prepared.spans

-- a shift is under way: what was added to the entries are acts of it
pub record Works (session : Session) (k : ℕ) (before : List Entry) (desk : Desk) (done : List ℕ) : Type 0 where
  pub new : List Entry
  pub are : desk.core.entries ≡ before ++ new
  pub of_shift : All (λ entry. entry.shift ≡ k) new
  pub stands : Stands session desk
  pub under : IsUnder (plan_of session k) done new

-- what the foreman needs to do acts of a shift
pub record CanWork (session : Session) (k : ℕ) (desk : Desk) (done : List ℕ) : Type 0 where
  pub fits : Fits session
  pub shift : k < length session.shifts
  pub design : desk.core.design ≡ session.design
  pub ready : IsReady desk
  pub painters : length done ≡ length (plan_of session k).painters
  pub within : (painter : ℕ) → slice_index done painter ≤ length (acts_of_painter (plan_of session k) painter)
  pub room : acts_of_shift session k ≤ desk.core.spare + sum done

-- the shift went on: what was under way still is, with no fewer acts of each painter
pub record GoesOn (session : Session) (k : ℕ) (desk : Desk) (done : List ℕ) (desk' : Desk) (done' : List ℕ) : Type 0 where
  pub works : (before : List Entry) → Works session k before desk done → Works session k before desk' done'
  pub can : CanWork session k desk' done'
  pub more : (painter : ℕ) → slice_index done painter ≤ slice_index done' painter
  pub spare : desk'.core.spare + sum done' ≡ desk.core.spare + sum done
  pub refused : desk'.end.refused ≡ desk.end.refused

-- memory was refused in a shift: what was added to the entries are acts of it, and at most the last version is not published
pub record IsBroken (session : Session) (k : ℕ) (before : List Entry) (desk : Desk) : Type 0 where
  pub holds : Holds session desk
  pub nearly : NearlyShown session desk
  pub adds : AddsSome session k before desk.core.entries

-- the shift was under way when memory was refused
pub record BreaksOff (session : Session) (k : ℕ) (desk : Desk) (done : List ℕ) (desk' : Desk) : Type 0 where
  pub works : (before : List Entry) → Works session k before desk done → IsBroken session k before desk'
  pub design : desk'.core.design ≡ session.design
  pub of_desk : IsDesk desk'
  pub refused : desk'.end.refused ≡ desk.end.refused

-- what the foreman leaves where it did all acts of a shift
pub record Directed (session : Session) (k : ℕ) (before after : Desk) : Type 0 where
  pub design : after.core.design ≡ session.design
  pub ready : IsReady after
  pub adds : Stands session before → Stands session after × AddsEntries session k before.core.entries after.core.entries
  pub spare : after.core.spare + acts_of_shift session k ≡ before.core.spare
  pub refused : after.end.refused ≡ before.end.refused

-- what it leaves where memory was refused
pub record Broke (session : Session) (k : ℕ) (before after : Desk) : Type 0 where
  pub design : after.core.design ≡ session.design
  pub of_desk : IsDesk after
  pub adds : Stands session before → IsBroken session k before.core.entries after
  pub refused : after.end.refused ≡ before.end.refused

-- it did all acts, or memory was refused
abbrev pub Directs : Session → ℕ → Desk → Desk → Bool → Type 0
Directs session k before after all = MatchBool all (Directed session k before after) (Broke session k before after)
