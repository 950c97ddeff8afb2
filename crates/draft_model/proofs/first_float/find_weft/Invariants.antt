use Rattle.std.proofs.Common.{◌≡◌, [], length, filter_map}
use Rattle.std.specs.List.{range_with_len}
use Rattle.draft_model.specs.Floats.{weft_float}
use Rattle.draft_model.proofs.first_float.find_weft.Given as goal

abbrev pub invariant-loop-pick : goal.invariant-loop-pick
invariant-loop-pick l = record {
  none : filter_map (weft_float l.design l.bits) (range_with_len 0 l.pick) ≡ [];
  ends : length l.ends ≡ length l.design.tie.ends;
  long : length l.long ≡ length l.design.tie.ends;
}
