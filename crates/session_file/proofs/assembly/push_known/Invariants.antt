use Rattle.std.proofs.Common.{◌≡◌, ◌++◌, map, take, slice_index}
use Rattle.session_file.proofs.assembly.push_known.Given as goal

abbrev pub invariant-loop-colour : goal.invariant-loop-colour
invariant-loop-colour l = l.numbers.items ≡ l.initial.numbers.items ++ map (λ colour. slice_index colour.rgb l.part) (take l.colour-index l.colours)
