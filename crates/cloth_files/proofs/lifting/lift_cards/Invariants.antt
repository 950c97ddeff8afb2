use Rattle.std.proofs.Common.{◌≡◌, ◌<◌, ℕ, [], length, get_or}
use Rattle.draft_model.specs.Cards.{lift, woven}
use Rattle.cloth_files.proofs.lifting.lift_cards.Given as goal

abbrev pub invariant-loop-pick : goal.invariant-loop-pick
invariant-loop-pick l = record {
  machine : l.machine ≡ record { tie = l.design.tie; casting = l.design.casting };
  ends : l.cloth.ends ≡ length l.design.tie.ends;
  picks : length l.cloth.rows ≡ l.cards.design.picks;
  row : length l.row ≡ length l.design.tie.ends;
  rows : (k : ℕ) → k < l.pick → get_or l.cloth.rows k [] ≡ woven l.face (lift l.design.tie.ends l.design.casting (get_or l.cards.holes k []));
}
