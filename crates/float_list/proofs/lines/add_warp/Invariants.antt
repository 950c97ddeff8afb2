use Rattle.std.proofs.Common.{◌≡◌, ◌≤◌, ◌*◌, ◌++◌, length, take, flat_map}
use Rattle.std.specs.List.{range_with_len}
use Rattle.draft_model.specs.declared.float_run.FloatKind.TheVariants.{Warp}
use Rattle.float_list.specs.declared.list.TheConstants.{MAX_LISTED}
use Rattle.float_list.specs.Floats.{over_limit, limits_of, line_of}
use Rattle.float_list.proofs.lines.add_warp.Given as goal

abbrev pub invariant-loop-end : goal.invariant-loop-end
invariant-loop-end l = record {
  listed : l.listed.items ≡ take MAX_LISTED (l.initial.listed.items
      ++ flat_map (λ line. over_limit (limits_of Warp l.design) line (line_of Warp l.design l.bits line)) (range_with_len 0 l.end));
  count : l.count ≡ length (flat_map (λ line. over_limit (limits_of Warp l.design) line (line_of Warp l.design l.bits line)) (range_with_len 0 l.end));
  few : l.count ≤ l.end * 16384;
}
