use Rattle.std.proofs.Common.{◌≡◌, MatchOption, slice_get}
use Rattle.card_image.specs.Sets.{design_by}
use Rattle.shed_publish.specs.declared.newest.Version.{Version}
use Rattle.shed_rows.proofs.desks.try_many.Given as goal

abbrev pub invariant-loop-k : goal.invariant-loop-k
invariant-loop-k g l = MatchOption (slice_get l.desk.list 0) ⊥ (λ (v : Version). v.cards.design ≡ design_by l.casting 1)
