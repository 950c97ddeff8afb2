-- What lifts cloths from cards: a machine with the face of its cloth, and the room in which it works.
use Rattle.std.specs.Prelude.{◌≡◌, ◌+◌, ◌/◌, ℕ, List, Bool, length}
use Rattle.mill_base.specs.declared.face.Face.{Face}
use Rattle.casting_out.specs.Castings.{CastingValue}
use Rattle.loom_machine.specs.Machines.{MachineValue}

-- what contracts see of it
pub record LifterValue : Type 0 where
  pub machine : MachineValue
  pub face : Face

-- the casting is the machine's, a turned card fits into its bytes, and a lifted row into its row and, packed, into its bytes
pub record HasRoom (machine : MachineValue) (casting : CastingValue) (turned : List ℕ) (row : List Bool) (packed : List ℕ) : Type 0 where
  pub one_casting : casting ≡ machine.casting
  pub turned_fits : length turned ≡ (machine.casting.hooks + 7) / 8
  pub row_fits : length row ≡ length machine.tie.ends
  pub packed_fits : length packed ≡ (length machine.tie.ends + 7) / 8
