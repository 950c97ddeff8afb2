use Rattle.std.proofs.Common.{◌+◌, ◌-◌, ◌*◌, ◌∙◌, ap, arith}
use Rattle.weave_book.specs.Weaves.{mark}
use Rattle.weave_book.proofs.weaves.Weave.next_marks.Goals as goal

pub returns : goal.returns
returns c j within =
    let some = c.if-at-eq0.false in
    c.turned.ensures (λ x. mark c.args.self.now (64 * (c.args.at - 1) + x) c.args.pick)
    (λ x. ap (λ k. mark c.args.self.now k c.args.pick) (omega arith) ∙ c.requires.again (64 * (c.args.at - 1) + x)) (λ k h. c.requires.before k h ∙ ap (λ x. mark c.args.self.now x c.args.pick) (omega arith)) j within
    ∙ ap (λ k. mark c.args.self.now k c.args.pick) (omega arith)
