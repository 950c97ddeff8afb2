use Rattle.std.proofs.Common.{◌≡◌, ◌≤◌, ◌*◌, ◌++◌, length, take, flat_map}
use Rattle.std.specs.List.{range_with_len}
use Rattle.draft_model.specs.declared.float_run.FloatKind.TheVariants.{Weft}
use Rattle.float_list.specs.declared.list.TheConstants.{MAX_LISTED}
use Rattle.float_list.specs.Floats.{over_limit, limits_of, line_of}
use Rattle.float_list.proofs.lines.add_weft.Given as goal

abbrev pub invariant-loop-pick : goal.invariant-loop-pick
invariant-loop-pick l = record {
  listed : l.listed.items ≡ take MAX_LISTED (l.initial.listed.items
      ++ flat_map (λ line. over_limit (limits_of Weft l.design) line (line_of Weft l.design l.bits line)) (range_with_len 0 l.pick));
  count : l.count ≡ length (flat_map (λ line. over_limit (limits_of Weft l.design) line (line_of Weft l.design l.bits line)) (range_with_len 0 l.pick));
  ends : length l.ends ≡ length l.design.tie.ends;
  long : length l.long ≡ length l.design.tie.ends;
  few : l.count ≤ l.pick * 16384;
}
