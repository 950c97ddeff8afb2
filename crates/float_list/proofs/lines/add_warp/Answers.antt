use Rattle.std.proofs.Common.{◌≡◌, ◌<◌, ℕ, List, ◌++◌, length, take, flat_map, refl, ap, ◌∙◌, arith}
use Rattle.std.specs.List.{range_with_len}
use Rattle.mill_base.specs.Grids.{GridCells}
use Rattle.draft_model.specs.declared.float_run.FloatKind.TheVariants.{Warp}
use Rattle.float_list.specs.declared.list.TheConstants.{MAX_LISTED}
use Rattle.float_list.specs.declared.long_float.LongFloat.{LongFloat}
use Rattle.float_list.specs.Floats.{limits_of, line_of, over_limit, floats_along}
use Rattle.float_list.proofs.Kept.{kept_all, kept_few, kept_piece, count_piece}
use Rattle.float_list.proofs.Pieces.{warp_piece, columns_high}
use Rattle.float_list.proofs.lines.add_warp.Goals as goal

pub loop-end-init : goal.loop-end-init
loop-end-init c = record {
  listed = kept_all MAX_LISTED c.args.listed.now.items c.requires.room;
  count = refl;
  few = omega arith;
}

pub get-is_long-requires : goal.get-is_long-requires
get-is_long-requires c =
    let there = c.column-column.ensures.there in
    let high = columns_high c.args.bits.now c.in_ok-turned.turned c.in_ok-turned.ensures in
    let across = c.requires.bits.columns in
    let tied = c.requires.fits.tie in
    let long = c.in_ok-long.ensures.len in
    omega (arith, there, high, across, tied, long)

pub row-requires : goal.row-requires
row-requires c =
    let there = c.column-column.ensures.there in
    let high = columns_high c.args.bits.now c.in_ok-turned.turned c.in_ok-turned.ensures in
    let across = c.requires.bits.columns in
    let tied = c.requires.fits.tie in
    omega (arith, there, high, across, tied)

pub add_line-requires-clause-most : goal.add_line-requires-clause-most
add_line-requires-clause-most c =
    let width = c.row.ensures.width in
    let turned = ap (λ (g : GridCells). g.width) c.in_ok-turned.ensures in
    let picks = c.requires.bits.picks in
    let most = c.requires.fits.picks.1 in
    omega (arith, width, turned, picks, most)

pub add_line-requires-clause-room : goal.add_line-requires-clause-room
add_line-requires-clause-room c =
    let f : ℕ → List LongFloat = λ (line : ℕ). over_limit (limits_of Warp c.args.design.now) line (line_of Warp c.args.design.now c.args.bits.now line) in
    kept_few MAX_LISTED (c.args.listed.now.items ++ flat_map f (range_with_len 0 c.loop-end.end)) c.loop-end.listed.items c.loop-end.invariant.listed

pub loop-end-preserved : goal.loop-end-preserved
loop-end-preserved c =
    let f : ℕ → List LongFloat = λ (line : ℕ). over_limit (limits_of Warp c.args.design.now) line (line_of Warp c.args.design.now c.args.bits.now line) in
    let there = c.column-column.ensures.there in
    let high = columns_high c.args.bits.now c.in_ok-turned.turned c.in_ok-turned.ensures in
    let across = c.requires.bits.columns in
    let tied = c.requires.fits.tie in
    let below : c.column-column.result < c.args.bits.now.columns = omega (arith, there, across, tied) in
    let same = warp_piece c.args.design.now c.args.bits.now c.loop-end.end c.column-column.result c.of-limits.result c.in_ok-turned.turned c.row.result.now c.of-limits.ensures
    c.in_ok-turned.ensures c.row.ensures.row c.column-column.ensures.column below in
    let width = c.row.ensures.width in
    let turned = ap (λ (g : GridCells). g.width) c.in_ok-turned.ensures in
    let picks = c.requires.bits.picks in
    let limit = c.requires.fits.picks.1 in
    let few = c.loop-end.invariant.few in
    let most = c.in_ok-count.ensures.most in
    record {
      listed = kept_piece MAX_LISTED f c.loop-end.end c.args.listed.now.items (over_limit c.of-limits.result c.loop-end.end c.row.result.now) c.loop-end.listed.items c.add_line.new.listed.items
          c.loop-end.invariant.listed c.in_ok-count.ensures.listed same;
      count = count_piece f c.loop-end.end c.loop-end.count c.in_ok-count.field-0 (over_limit c.of-limits.result c.loop-end.end c.row.result.now) c.loop-end.invariant.count c.in_ok-count.ensures.count same;
      few = omega (arith, few, most, width, turned, picks, limit);
    }

pub returns-clause-count : goal.returns-clause-count
unfolding floats_along
returns-clause-count c =
    let f : ℕ → List LongFloat = λ (line : ℕ). over_limit (limits_of Warp c.args.design.now) line (line_of Warp c.args.design.now c.args.bits.now line) in
    let many = c.ends-end-end.ensures.count in
    let past = c.loop-end-test.false in
    let up = c.loop-end.auto.end-end in
    let all : c.loop-end.end ≡ length c.args.design.now.tie.ends = omega (arith, many, past, up) in
    c.loop-end.invariant.count ∙ ap (λ n. length (flat_map f (range_with_len 0 n))) all

pub returns-clause-listed : goal.returns-clause-listed
unfolding floats_along
returns-clause-listed c =
    let f : ℕ → List LongFloat = λ (line : ℕ). over_limit (limits_of Warp c.args.design.now) line (line_of Warp c.args.design.now c.args.bits.now line) in
    let many = c.ends-end-end.ensures.count in
    let past = c.loop-end-test.false in
    let up = c.loop-end.auto.end-end in
    let all : c.loop-end.end ≡ length c.args.design.now.tie.ends = omega (arith, many, past, up) in
    c.loop-end.invariant.listed ∙ ap (λ n. take MAX_LISTED (c.args.listed.now.items ++ flat_map f (range_with_len 0 n))) all
