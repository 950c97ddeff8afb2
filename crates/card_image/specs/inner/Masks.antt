-- The hooks of the columns as bytes of holes.
use Rattle.std.specs.Prelude.{◌≡◌, ◌*◌, ◌<◌, ◌≤◌, ℕ, false, List, length}
use Rattle.card_image.specs.Sets.{hangs}
use Rattle.card_image.specs.Places.{hole_bytes, hole_at}

-- the mask has a hole at each hook of a column and nowhere else, pad bits included
pub record IsMask (hooks : ℕ) (columns mask : List ℕ) : Type 0 where
  pub wide : length mask ≡ hole_bytes hooks
  pub bits : (h : ℕ) → h < 8 * hole_bytes hooks → hole_at mask 0 h ≡ hangs columns h
  pub pads : (h : ℕ) → hooks ≤ h → hangs columns h ≡ false
