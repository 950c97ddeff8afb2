-- The parts of a design that are numbers.
use Rattle.std.specs.Prelude.{◌≡◌}
use Rattle.tile_rebuild.specs.declared.parts.Parts.{Parts}

pub record HaveNumbers (one other : Parts) : Type 0 where
  pub sizes : one.size ≡ other.size
  pub weft_faces : one.weft_face ≡ other.weft_face
  pub weft_backs : one.weft_back ≡ other.weft_back
  pub warp_faces : one.warp_face ≡ other.warp_face
  pub warp_backs : one.warp_back ≡ other.warp_back
  pub tiles : one.tile ≡ other.tile
