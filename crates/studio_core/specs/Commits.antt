-- What a commit leaves.
use Rattle.std.specs.Prelude.{◌≡◌, ℕ, ◌+◌, ◌*◌, count_by}
use Rattle.version_journal.specs.declared.entry.Reply.{Reply}
use Rattle.version_journal.specs.declared.entry.Reply.TheVariants.{Painted, Accepted, Refused}
use Rattle.card_image.specs.Sets.{cards_of}
use Rattle.studio_core.specs.Cores.{CoreValue}

-- an accepted commit makes the next version, with the cards of the present paper; a refused one leaves version and cards
abbrev pub IsAnswered : Reply → CoreValue → CoreValue → Type 0
IsAnswered Painted old new = ⊥
IsAnswered (Accepted number) old new = (new.version ≡ old.version + 1) × (new.cards ≡ cards_of old.design old.paper)
IsAnswered (Refused float) old new = (new.version ≡ old.version) × (new.cards ≡ old.cards)

-- the most steps that settling takes: twice the lines of each tile that is marked for binding
abbrev pub settle_steps : CoreValue → ℕ
settle_steps core = count_by (λ b. b) core.bind * (2 * core.design.tile * (core.design.size.columns + core.design.size.picks))
