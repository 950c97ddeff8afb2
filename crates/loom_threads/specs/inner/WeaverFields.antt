-- What the fields of a weaver keep.
use Rattle.std.specs.Prelude.{◌≡◌, ℕ, ◌+◌, ◌^◌, ◌<◌, ◌≤◌, true, List, length, Option, All, if◌then◌else◌}
use Rattle.std.specs.Arc.{arc_value}
use Rattle.std.specs.Option.{option_map}
use Rattle.std.specs.Vec.{vec_capacity}
use Rattle.card_image.specs.Sets.{CardsValue}
use Rattle.loom_threads.specs.inner.Weavers.{HasRows, HasSize, KeepsLast, WeaverValue}
use Rattle.loom_threads.specs.declared.weaver.Weaver.TheInside.{Inside}

abbrev pub weaver_of : Inside → WeaverValue
weaver_of w = record { machine = w.lifter.machine; picks = w.picks; face = w.lifter.face; shown = w.shown; repeats = w.repeats.items; spare = w.spare }

-- how many ends a cloth has
abbrev pub ends_of : Inside → ℕ
ends_of w = length w.lifter.machine.tie.ends

-- the cards of the last repeat, where they are kept
abbrev pub kept_cards : Inside → Option CardsValue
kept_cards w = option_map (λ cards. arc_value cards) w.kept

-- There is room for the repeats that are to come, and where rows are shown a cloth for each of them; the cloths that lie ready and those
-- of the repeats have one size. The cards that are kept are those of the last repeat.
pub record IsWeaver (w : Inside) : Type 0 where
  pub few : length w.repeats.items + w.spare < 2 ^ 32
  pub room : length w.repeats.items + w.spare ≤ vec_capacity w.repeats
  pub ready : length w.ready.items ≡ (if w.shown then w.spare else 0)
  pub ready_room : w.shown ≡ true → length w.repeats.items + w.spare ≤ vec_capacity w.ready
  pub sizes : All (HasSize (ends_of w) w.picks) w.ready.items
  pub rows : All (HasRows (ends_of w) w.picks w.shown) w.repeats.items
  pub last : KeepsLast w.lifter.machine w.lifter.face w.shown (kept_cards w) w.repeats.items
