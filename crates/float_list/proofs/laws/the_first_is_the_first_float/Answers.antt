use Rattle.std.proofs.Common.{sym, ◌∙◌, slice_get}
use Rattle.draft_model.specs.Floats.{first_float}
use Rattle.float_list.specs.Floats.{floats_of}
use Rattle.float_list.specs.Lists.{told}
use Rattle.float_list.proofs.Firsts.{first_of_all, some_mapped}
use Rattle.float_list.proofs.laws.the_first_is_the_first_float.Goals as goal

pub returns-clause-first : goal.returns-clause-first
returns-clause-first c = first_of_all

pub returns-clause-none : goal.returns-clause-none
returns-clause-none c design bits ends picks =
    some_mapped told (slice_get (floats_of design bits) 0) (first_float design bits) (first_of_all design bits)
    ∙ sym (c.a_cloth_keeps_a_float_where_one_is_told.ensures design bits ends picks)
