use Rattle.draft_model.proofs.FirstFloats.{keeps_what_is_told}
use Rattle.draft_model.proofs.laws.a_cloth_keeps_a_float_where_one_is_told.Goals as goal

pub returns : goal.returns
returns c = keeps_what_is_told c.no_float_is_over_its_limit_where_no_position_is_long.ensures
