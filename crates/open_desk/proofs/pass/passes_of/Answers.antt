use Rattle.std.proofs.Common.{◌≡◌, ◌+◌, ◌∷◌, ◌++◌, [], sym, ap, ◌∙◌, rules, arith}
use Rattle.mill_base.specs.Lines.{line_by}
use Rattle.mill_base.proofs.lemmas.Lines.{line_by_more}
use Rattle.open_desk.specs.Passes.{new_pass}
use Rattle.open_desk.proofs.pass.passes_of.Goals as goal

pub loop-number-init : goal.loop-number-init
unfolding line_by
loop-number-init g c = search rules

pub loop-number-preserved : goal.loop-number-preserved
loop-number-preserved g c =
    let inv = c.loop-number.invariant in
    let parts = c.split_off-share.ensures.parts_left in
    let amount = c.split_off-share.ensures.amount_left in
    (omega (arith, inv.0, parts), omega (arith, inv.1, amount), c.in_ok-push.ensures.items ∙ (λ i. inv.2 i ++ c.in_ok-pass.ensures i ∷ []) ∙ sym (line_by_more c.loop-number.number new_pass))
