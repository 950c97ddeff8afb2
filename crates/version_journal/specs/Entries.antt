-- Acts that were done.
use Rattle.std.specs.Prelude.{ℕ, Bool, true, false, List}
use Rattle.version_journal.specs.declared.entry.Entry.{Entry}
use Rattle.version_journal.specs.declared.entry.Reply.{Reply}
use Rattle.version_journal.specs.declared.entry.Reply.TheVariants.{Painted, Accepted, Refused}

-- the entries of a journal in order, and how many more it has room for
pub record Kept : Type 0 where
  pub entries : List Entry
  pub spare : ℕ

-- the reply to a commit that made a version
abbrev pub is_accepted : Reply → Bool
is_accepted Painted = false
is_accepted (Accepted version) = true
is_accepted (Refused float) = false
