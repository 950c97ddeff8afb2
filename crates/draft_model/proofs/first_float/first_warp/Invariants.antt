use Rattle.std.proofs.Common.{◌≡◌, ℕ, [], filter_map}
use Rattle.std.specs.List.{range_with_len}
use Rattle.draft_model.specs.Floats.{warp_float}
use Rattle.draft_model.proofs.first_float.first_warp.Given as goal

abbrev pub invariant-loop-end : goal.invariant-loop-end
invariant-loop-end l = filter_map (warp_float l.design l.bits) (range_with_len 0 l.end) ≡ []
