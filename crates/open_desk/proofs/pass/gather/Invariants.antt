use Rattle.std.specs.Prelude.{◌≡◌, ◌+◌, ◌++◌, length, sum_by}
use Rattle.std.specs.Vec.{vec_capacity}
use Rattle.open_desk.specs.Passes.{told}
use Rattle.open_desk.proofs.pass.gather.Given as goal

abbrev pub invariant-loop-pass : goal.invariant-loop-pass
invariant-loop-pass g l =
    (l.lists.items ++ told l.pass-iterator.rest.items ≡ told l.fn.passes.items)
    × (l.all.parts + length l.pass-iterator.rest.items ≡ length l.fn.passes.items)
    × (l.all.amount + sum_by length (told l.pass-iterator.rest.items) ≡ sum_by length (told l.fn.passes.items))
    × (vec_capacity l.lists ≡ vec_capacity l.fn.lists)
