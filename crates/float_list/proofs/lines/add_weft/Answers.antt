use Rattle.std.proofs.Common.{◌≡◌, ℕ, false, List, ◌++◌, length, take, flat_map, refl, ap, ◌∙◌, arith}
use Rattle.std.specs.List.{range_with_len}
use Rattle.std.proofs.lemmas.List.{length-replicate}
use Rattle.draft_model.specs.declared.float_run.FloatKind.TheVariants.{Weft}
use Rattle.float_list.specs.declared.list.TheConstants.{MAX_LISTED}
use Rattle.float_list.specs.declared.long_float.LongFloat.{LongFloat}
use Rattle.float_list.specs.Floats.{limits_of, line_of, over_limit, floats_along}
use Rattle.float_list.proofs.Kept.{kept_all, kept_few, kept_piece, count_piece}
use Rattle.float_list.proofs.Pieces.{weft_piece}
use Rattle.float_list.proofs.lines.add_weft.Goals as goal

pub loop-pick-init : goal.loop-pick-init
loop-pick-init c = record {
  listed = kept_all MAX_LISTED c.args.listed.now.items c.requires.room;
  count = refl;
  ends = ap length c.in_ok-ends.ensures ∙ length-replicate c.ends.result false ∙ c.ends.ensures.count;
  long = ap length c.in_ok-long.ensures ∙ length-replicate c.ends-2.result false ∙ c.ends-2.ensures.count;
  few = omega arith;
}

pub add_line-requires-clause-most : goal.add_line-requires-clause-most
add_line-requires-clause-most c =
    let long = c.lay.ensures.len in
    let most = c.requires.fits.ends.1 in
    omega (arith, long, most)

pub add_line-requires-clause-room : goal.add_line-requires-clause-room
add_line-requires-clause-room c =
    let f : ℕ → List LongFloat = λ (line : ℕ). over_limit (limits_of Weft c.args.design.now) line (line_of Weft c.args.design.now c.args.bits.now line) in
    kept_few MAX_LISTED (c.args.listed.now.items ++ flat_map f (range_with_len 0 c.loop-pick.pick)) c.loop-pick.listed.items c.loop-pick.invariant.listed

pub loop-pick-preserved : goal.loop-pick-preserved
loop-pick-preserved c =
    let f : ℕ → List LongFloat = λ (line : ℕ). over_limit (limits_of Weft c.args.design.now) line (line_of Weft c.args.design.now c.args.bits.now line) in
    let same = weft_piece c.args.design.now c.args.bits.now c.loop-pick.pick c.of-limits.result c.row.result.now c.lay.new.ends c.of-limits.ensures c.row.ensures.row c.lay.ensures.line in
    let long = c.lay.ensures.len in let limit = c.requires.fits.ends.1 in
    let few = c.loop-pick.invariant.few in
    let most = c.in_ok-count.ensures.most in
    record {
      listed = kept_piece MAX_LISTED f c.loop-pick.pick c.args.listed.now.items (over_limit c.of-limits.result c.loop-pick.pick c.lay.new.ends) c.loop-pick.listed.items c.add_line.new.listed.items
          c.loop-pick.invariant.listed c.in_ok-count.ensures.listed same;
      count = count_piece f c.loop-pick.pick c.loop-pick.count c.in_ok-count.field-0 (over_limit c.of-limits.result c.loop-pick.pick c.lay.new.ends) c.loop-pick.invariant.count c.in_ok-count.ensures.count same;
      ends = c.lay.ensures.len;
      long = c.is_long_somewhere-is_long.ensures.len ∙ c.lay.ensures.len;
      few = omega (arith, few, most, long, limit);
    }

pub returns-clause-count : goal.returns-clause-count
unfolding floats_along
returns-clause-count c =
    let f : ℕ → List LongFloat = λ (line : ℕ). over_limit (limits_of Weft c.args.design.now) line (line_of Weft c.args.design.now c.args.bits.now line) in
    let high = ap (λ s. s.picks) c.size-pick-end.ensures.size in
    let past = c.loop-pick-test.false in
    let up = c.loop-pick.auto.pick-end in
    let all : c.loop-pick.pick ≡ length c.args.bits.now.rows = omega (arith, high, past, up) in
    c.loop-pick.invariant.count ∙ ap (λ n. length (flat_map f (range_with_len 0 n))) all

pub returns-clause-listed : goal.returns-clause-listed
unfolding floats_along
returns-clause-listed c =
    let f : ℕ → List LongFloat = λ (line : ℕ). over_limit (limits_of Weft c.args.design.now) line (line_of Weft c.args.design.now c.args.bits.now line) in
    let high = ap (λ s. s.picks) c.size-pick-end.ensures.size in
    let past = c.loop-pick-test.false in
    let up = c.loop-pick.auto.pick-end in
    let all : c.loop-pick.pick ≡ length c.args.bits.now.rows = omega (arith, high, past, up) in
    c.loop-pick.invariant.listed ∙ ap (λ n. take MAX_LISTED (c.args.listed.now.items ++ flat_map f (range_with_len 0 n))) all
