use Rattle.std.proofs.Common.{◌∙◌, ◌+◌, ◌-◌, ◌/◌, ℕ, take, drop, sym, ap, arith}
use Rattle.card_image.specs.Places.{hole_at, hole_bytes}
use Rattle.card_image.specs.Faults.{holes_fault}
use Rattle.card_image.proofs.Counting.{part_fault}
use Rattle.card_image.proofs.Told.{once_yes}
use Rattle.card_image.proofs.card_fault.whole_fault.Goals as goal

pub returns : goal.returns
returns c =
    let hooks = c.args.plan.now.hooks in
    let columns = c.args.plan.now.columns.items in
    let at = c.args.at + 8 in
    let size = at + (hooks + 7) / 8 - at in
    c.holes_fault.ensures
    ∙ ap (λ (n : ℕ). holes_fault hooks columns c.args.pick n (hole_at (take size (drop at c.args.bytes.now)) 0)) c.number_in-written.ensures
    ∙ part_fault hooks columns c.args.bytes.now c.args.pick _ at size (omega arith)
    ∙ sym (once_yes c.args.bytes.now (c.args.at + (8 + hole_bytes hooks)) _ (omega (arith, c.if-bytes-at.false)))
