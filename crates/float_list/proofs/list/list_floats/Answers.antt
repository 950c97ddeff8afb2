use Rattle.std.proofs.Common.{◌<◌, [], List, length, slice_get, is_some, sym, ap, subst, ◌∙◌, arith}
use Rattle.std.specs.Prelude.{All}
use Rattle.draft_model.specs.declared.float_run.FloatKind.TheVariants.{Weft, Warp}
use Rattle.float_list.specs.declared.list.TheConstants.{MAX_LISTED}
use Rattle.float_list.specs.declared.long_float.LongFloat.{LongFloat}
use Rattle.float_list.specs.Floats.{floats_along, floats_of}
use Rattle.float_list.specs.Lists.{IsFloatOf}
use Rattle.float_list.proofs.Kept.{kept_few, kept_more, first_kept, from_none}
use Rattle.float_list.proofs.Firsts.{first_listed, list_is}
use Rattle.float_list.proofs.OnLines.{all_there}
use Rattle.float_list.proofs.list.list_floats.Goals as goal

pub add_warp-requires-clause-room : goal.add_warp-requires-clause-room
add_warp-requires-clause-room c =
    kept_few MAX_LISTED (floats_along Weft c.args.design.now c.args.bits.now) c.add_weft.new.listed.items
    (from_none MAX_LISTED c.new-listed.result.items (floats_along Weft c.args.design.now c.args.bits.now) c.add_weft.new.listed.items c.new-listed.ensures.items c.in_ok-weft.ensures.listed)

pub returns-clause-list : goal.returns-clause-list
returns-clause-list c =
    list_is c.args.design.now c.args.bits.now c.of.result c.in_ok-weft.weft c.in_ok-warp.warp
    (c.of.ensures
    ∙ kept_more MAX_LISTED [] (floats_along Weft c.args.design.now c.args.bits.now) (floats_along Warp c.args.design.now c.args.bits.now)
    c.add_weft.new.listed.items c.add_warp.new.listed.items
    (from_none MAX_LISTED c.new-listed.result.items (floats_along Weft c.args.design.now c.args.bits.now) c.add_weft.new.listed.items c.new-listed.ensures.items c.in_ok-weft.ensures.listed) c.in_ok-warp.ensures.listed)
    c.in_ok-weft.ensures.count c.in_ok-warp.ensures.count

pub returns-clause-each : goal.returns-clause-each
returns-clause-each c =
    subst (λ (l : List LongFloat). All (IsFloatOf c.args.design.now) l)
    (sym (c.of.ensures
    ∙ kept_more MAX_LISTED [] (floats_along Weft c.args.design.now c.args.bits.now) (floats_along Warp c.args.design.now c.args.bits.now)
    c.add_weft.new.listed.items c.add_warp.new.listed.items
    (from_none MAX_LISTED c.new-listed.result.items (floats_along Weft c.args.design.now c.args.bits.now) c.add_weft.new.listed.items c.new-listed.ensures.items c.in_ok-weft.ensures.listed) c.in_ok-warp.ensures.listed))
    (all_there c.every_float_is_on_the_line.ensures.each MAX_LISTED c.args.design.now c.args.bits.now c.requires.fits c.requires.bits)

pub returns-clause-first : goal.returns-clause-first
returns-clause-first c =
    first_listed c.args.design.now c.args.bits.now c.of.result
    (c.of.ensures
    ∙ kept_more MAX_LISTED [] (floats_along Weft c.args.design.now c.args.bits.now) (floats_along Warp c.args.design.now c.args.bits.now)
    c.add_weft.new.listed.items c.add_warp.new.listed.items
    (from_none MAX_LISTED c.new-listed.result.items (floats_along Weft c.args.design.now c.args.bits.now) c.add_weft.new.listed.items c.new-listed.ensures.items c.in_ok-weft.ensures.listed) c.in_ok-warp.ensures.listed)

pub returns-clause-none : goal.returns-clause-none
returns-clause-none c =
    let some : 0 < length c.args.design.now.tie.ends = let ends = c.requires.fits.ends.0 in omega (arith, ends) in
    let high : 0 < length c.args.bits.now.rows = let picks = c.requires.fits.picks.0 in let many = c.requires.bits.picks in omega (arith, picks, many) in
    ap (λ (l : List LongFloat). is_some (slice_get l 0))
    (c.of.ensures
    ∙ kept_more MAX_LISTED [] (floats_along Weft c.args.design.now c.args.bits.now) (floats_along Warp c.args.design.now c.args.bits.now)
    c.add_weft.new.listed.items c.add_warp.new.listed.items
    (from_none MAX_LISTED c.new-listed.result.items (floats_along Weft c.args.design.now c.args.bits.now) c.add_weft.new.listed.items c.new-listed.ensures.items c.in_ok-weft.ensures.listed) c.in_ok-warp.ensures.listed)
    ∙ ap is_some (first_kept MAX_LISTED (floats_of c.args.design.now c.args.bits.now) (omega arith))
    ∙ c.the_first_is_the_first_float.ensures.none c.args.design.now c.args.bits.now some high
