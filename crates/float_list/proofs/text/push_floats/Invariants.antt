use Rattle.std.proofs.Common.{◌≡◌, ◌++◌, take, flat_map}
use Rattle.float_list.specs.Texts.{float_line}
use Rattle.float_list.proofs.text.push_floats.Given as goal

abbrev pub invariant-loop-float : goal.invariant-loop-float
invariant-loop-float l = l.out.items ≡ l.initial.out.items ++ flat_map (float_line l.design) (take l.float-index l.floats)
