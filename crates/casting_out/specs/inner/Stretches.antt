-- The hooks of the columns as stretches of hooks that rise by one.
use Rattle.std.specs.Prelude.{ℕ, ◌+◌, ◌<◌, ◌≤◌, List, flat_map}
use Rattle.std.specs.List.{range_with_len}
use Rattle.casting_out.specs.declared.stretch.Stretch.{Stretch}

-- the hooks of a stretch's columns
abbrev pub stretch_hooks : Stretch → List ℕ
stretch_hooks s = range_with_len s.hook s.count

-- the hooks of the columns of all stretches, one after another
abbrev pub written_out : List Stretch → List ℕ
written_out stretches = flat_map stretch_hooks stretches

-- a stretch has a column, and all of its hooks are there
pub record IsStretch (hooks : ℕ) (s : Stretch) : Type 0 where
  pub some : 0 < s.count
  pub there : s.hook + s.count ≤ hooks
