use Rattle.std.proofs.Common.{◌≡◌, ap, ◌∙◌, length, arith}
use Rattle.std.proofs.lemmas.List.{length-map}
use Rattle.open_desk.specs.Passes.{PassValue, told}
use Rattle.open_desk.proofs.locked.Locked.close.Goals as goal

pub close-requires-clause-callers : goal.close-requires-clause-callers
close-requires-clause-callers g c =
    let same = ap length c.gather.ensures.lists ∙ length-map c.args.passes.items (λ (p : PassValue). p.receipts) ∙ c.requires.passes in
    omega (arith, same, c.self.invariant.1.countable)
