use Rattle.std.proofs.Common.{◌≡◌, None}
use Rattle.card_image.specs.Firsts.{first_of}
use Rattle.card_image.specs.Places.{card_place}
use Rattle.card_image.specs.Faults.{card_fault}
use Rattle.card_image.proofs.so_far.cards_fault.Given as goal

abbrev pub invariant-loop-pick : goal.invariant-loop-pick
invariant-loop-pick l = (l.at ≡ card_place l.plan.hooks l.pick) × (first_of (card_fault l.plan.hooks l.plan.columns.items l.bytes) l.pick ≡ None)
