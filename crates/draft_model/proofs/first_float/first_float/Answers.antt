use Rattle.std.proofs.Common.{◌≡◌, ◌<◌, ℕ, List, [], length, Option, Some, None, is_some, filter_map, slice_get, ◌++◌, ap, sym, ◌∙◌, arith}
use Rattle.std.specs.List.{range_with_len}
use Rattle.mill_base.proofs.lemmas.FirstAnswers.{first_of_left}
use Rattle.point_paper.specs.Papers.{BitCells}
use Rattle.draft_model.specs.declared.design.Design.{Design}
use Rattle.draft_model.specs.Designs.{Fits, IsBitsOf}
use Rattle.draft_model.specs.Floats.{first_float, weft_float, warp_float}
use Rattle.draft_model.proofs.FirstFloats.{no_left}
use Rattle.draft_model.proofs.first_float.first_float.Goals as goal

some_ends : (design : Design) → Fits design → 0 < length design.tie.ends
some_ends design fits = let some = fits.ends.0 in omega (arith, some)

some_picks : (design : Design) (bits : BitCells) → Fits design → IsBitsOf design bits → 0 < length bits.rows
some_picks design bits fits of = let some = fits.picks.0 in let high = of.picks in omega (arith, some, high)

pub returns-in-Some : goal.returns-in-Some
unfolding first_float
returns-in-Some c = record {
  first = sym (first_of_left
      (filter_map (weft_float c.args.design.now c.args.bits.now) (range_with_len 0 (length c.args.bits.now.rows)))
      (filter_map (warp_float c.args.design.now c.args.bits.now) (range_with_len 0 (length c.args.design.now.tie.ends)))
      c.in-Some.float (sym c.first_weft.ensures ∙ c.in-Some.is));
  none = ap is_some (sym (first_of_left
      (filter_map (weft_float c.args.design.now c.args.bits.now) (range_with_len 0 (length c.args.bits.now.rows)))
      (filter_map (warp_float c.args.design.now c.args.bits.now) (range_with_len 0 (length c.args.design.now.tie.ends)))
      c.in-Some.float (sym c.first_weft.ensures ∙ c.in-Some.is)))
      ∙ sym (c.a_cloth_keeps_a_float_where_one_is_told.ensures c.args.design.now c.args.bits.now (some_ends c.args.design.now c.requires.fits) (some_picks c.args.design.now c.args.bits.now c.requires.fits c.requires.bits));
}

pub returns : goal.returns
unfolding first_float
returns c = record {
  first = c.first_warp.ensures ∙ sym (no_left
      (filter_map (weft_float c.args.design.now c.args.bits.now) (range_with_len 0 (length c.args.bits.now.rows)))
      (filter_map (warp_float c.args.design.now c.args.bits.now) (range_with_len 0 (length c.args.design.now.tie.ends)))
      (sym c.first_weft.ensures ∙ c.in_default.is));
  none = ap is_some (c.first_warp.ensures ∙ sym (no_left
      (filter_map (weft_float c.args.design.now c.args.bits.now) (range_with_len 0 (length c.args.bits.now.rows)))
      (filter_map (warp_float c.args.design.now c.args.bits.now) (range_with_len 0 (length c.args.design.now.tie.ends)))
      (sym c.first_weft.ensures ∙ c.in_default.is)))
      ∙ sym (c.a_cloth_keeps_a_float_where_one_is_told.ensures c.args.design.now c.args.bits.now (some_ends c.args.design.now c.requires.fits) (some_picks c.args.design.now c.args.bits.now c.requires.fits c.requires.bits));
}
