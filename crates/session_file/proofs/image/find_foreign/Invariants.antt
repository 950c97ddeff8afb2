use Rattle.std.proofs.Common.{◌≡◌, [], filter_map}
use Rattle.std.specs.List.{range_with_len}
use Rattle.session_file.specs.Sessions.{foreign_in, pick_pixels}
use Rattle.session_file.proofs.image.find_foreign.Given as goal

abbrev pub invariant-loop-pick : goal.invariant-loop-pick
invariant-loop-pick l = filter_map (λ pick. foreign_in l.colours pick (pick_pixels l.size l.pixels pick)) (range_with_len 0 l.pick) ≡ []
