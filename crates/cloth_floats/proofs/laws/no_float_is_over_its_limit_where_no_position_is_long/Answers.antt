use Rattle.std.proofs.Common.{refl}
use Rattle.cloth_floats.specs.Floats.{first_long_of}
use Rattle.cloth_floats.proofs.Walks.{none_exactly}
use Rattle.cloth_floats.proofs.laws.no_float_is_over_its_limit_where_no_position_is_long.Goals as goal

pub returns : goal.returns
returns c line lifted unlifted some = none_exactly line lifted unlifted (first_long_of line lifted unlifted) some refl
