-- What the locked value of an open desk keeps, and how an act changes it.
use Rattle.std.specs.Prelude.{◌≡◌, ℕ, ◌+◌, ◌*◌, ◌≤◌, List, [], ◌∷◌, ◌++◌, length}
use Rattle.point_paper.specs.Papers.{PaperCells}
use Rattle.strokes.specs.Spans.{PreparedAct}
use Rattle.version_journal.specs.declared.entry.Reply.{Reply}
use Rattle.version_journal.specs.Journals.{History, history, replies, step}
use Rattle.studio_core.specs.Cores.{CoreValue, entry_by}
use Rattle.studio_core.specs.Histories.{IsAt}
use Rattle.open_desk.specs.Histories.{IsHistory, acted, all_acted, count_of}
use Rattle.open_desk.specs.declared.receipt.Receipt.{Receipt}

-- What contracts see: the core, the paper that it started from, and the act of each of its entries.
pub record LockedValue : Type 0 where
  pub core : CoreValue
  pub opening : PaperCells
  pub acts : List PreparedAct

-- the core of a desk of c columns, p picks and n colours
pub record IsShaped (c p n : ℕ) (core : CoreValue) : Type 0 where
  pub columns : core.design.size.columns ≡ c
  pub picks : core.design.size.picks ≡ p
  pub colours : length core.design.book ≡ n

-- What holds whenever the lock is free: the entries are a history of one thread, which has come to where the core is; no caller has more
-- than `most` of them, and there is room for all that are to come.
pub record IsLocked (callers most : ℕ) (value : LockedValue) : Type 0 where
  pub is_history : IsHistory value.core.design callers value.opening value.acts value.core.entries
  pub at : IsAt (history value.core.design value.opening (all_acted value.acts)) value.core
  pub few : (caller : ℕ) → count_of caller value.core.entries ≤ most
  pub room : length value.core.entries + value.core.spare ≡ most * callers

-- An act was done: it has the next entry, which is the caller's next, and the receipt has the place and the reply of that entry.
pub record IsDone (caller : ℕ) (act : PreparedAct) (receipt : Receipt) (old new : LockedValue) : Type 0 where
  pub place : receipt.place ≡ length old.core.entries
  pub of_act : receipt.act ≡ act.act
  pub entry : new.core.entries ≡ old.core.entries ++ entry_by 0 caller (count_of caller old.core.entries + 1) receipt.reply ∷ []
  pub acts : new.acts ≡ old.acts ++ act ∷ []
  pub opening : new.opening ≡ old.opening
  pub design : new.core.design ≡ old.core.design
  pub reply : replies old.core.design old.opening (all_acted new.acts) ≡ replies old.core.design old.opening (all_acted old.acts) ++ receipt.reply ∷ []

-- a core whose marked tiles may have been bound and checked: all else is as before
abbrev pub settled : CoreValue → CoreValue → CoreValue
settled old new = record old { bits = new.bits; bind = new.bind; check = new.check; flags = new.flags }

-- What an act does to the core: its entry is added, and a history that had come to the core goes on by the act, with that reply.
pub record IsActed (caller number : ℕ) (act : PreparedAct) (reply : Reply) (old new : CoreValue) : Type 0 where
  pub entries : new.entries ≡ old.entries ++ entry_by 0 caller number reply ∷ []
  pub spare : new.spare + 1 ≡ old.spare
  pub design : new.design ≡ old.design
  pub at : (h : History) → IsAt h old → IsAt (step old.design h (acted act)) new × ((step old.design h (acted act)).replies ≡ h.replies ++ reply ∷ [])
