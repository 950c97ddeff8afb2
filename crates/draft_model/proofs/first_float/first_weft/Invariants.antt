use Rattle.std.proofs.Common.{◌≡◌, ℕ, [], filter_map}
use Rattle.std.specs.List.{range_with_len}
use Rattle.draft_model.specs.Floats.{weft_float}
use Rattle.draft_model.proofs.first_float.first_weft.Given as goal

abbrev pub invariant-loop-pick : goal.invariant-loop-pick
invariant-loop-pick l = filter_map (weft_float l.design l.bits) (range_with_len 0 l.pick) ≡ []
