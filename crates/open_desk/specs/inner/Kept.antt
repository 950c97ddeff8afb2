-- What holds of the fields of a locked value.
use Rattle.std.specs.Prelude.{◌≡◌, ℕ, ◌+◌, ◌^◌, ◌<◌, ◌≤◌, List, length, slice_index}
use Rattle.open_desk.specs.Histories.{count_of}
use Rattle.open_desk.specs.Locks.{IsLocked, LockedValue}

-- Beside what holds whenever the lock is free: each caller's entries are counted, the ledger counts them all, the numbers of acts and callers have 32 bits,
-- and there is room for an act of each entry that is to come.
pub record IsKept (callers most : ℕ) (value : LockedValue) (counts : List ℕ) (total acts_room : ℕ) : Type 0 where
  pub is_locked : IsLocked callers most value
  pub counters : length counts ≡ callers
  pub counted : (caller : ℕ) → caller < callers → slice_index counts caller ≡ count_of caller value.core.entries
  pub in_ledger : total ≡ length value.core.entries
  pub bounded : most < 2 ^ 32
  pub countable : callers < 2 ^ 32
  pub acts_fit : length value.acts + value.core.spare ≤ acts_room
