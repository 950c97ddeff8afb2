use Rattle.std.proofs.Common.{◌≡◌, ◌<◌, ◌≤◌, [], length, get_or, ap, sym, ◌∙◌, arith, length-set}
use Rattle.mill_base.specs.declared.face.Face.{Face}
use Rattle.mill_base.proofs.lemmas.Lines.{one_more}
use Rattle.draft_model.specs.Cards.{lift, woven}
use Rattle.draft_model.specs.Cloths.{ClothCells}
use Rattle.loom_machine.specs.Machines.{MachineValue}
use Rattle.cloth_files.specs.Cards.{cloth_of_cards}
use Rattle.cloth_files.proofs.Lifts.{length-woven, lifted_row, lifted_cloth}
use Rattle.cloth_files.proofs.lifting.lift_cards.Goals as goal

pub loop-pick-preserved : goal.loop-pick-preserved
loop-pick-preserved c =
    let design = c.args.design.now in
    let cards = c.args.cards.now in
    let face = c.face-face.result in
    let below : c.loop-pick.pick < cards.design.picks = omega (arith, c.loop-pick-test.true, c.picks-pick-end.ensures.count) in
    let there : c.loop-pick.pick < length c.loop-pick.cloth.rows = omega (arith, c.loop-pick.invariant.picks, below) in
    let row : c.read_on.new.row ≡ woven face (lift design.tie.ends design.casting (get_or cards.holes c.loop-pick.pick [])) =
    lifted_row design cards c.loop-pick.machine face c.loop-pick.pick c.card.result.now c.pick.new.out c.read_on.new.row c.requires.design c.card.ensures.whole below
    c.loop-pick.invariant.machine c.card.ensures.holes c.pick.ensures.packed c.read_on.ensures in
    record {
      machine = c.pick.ensures.same ∙ c.loop-pick.invariant.machine;
      ends = ap (λ (b : ClothCells). b.ends) c.set_row.ensures ∙ c.loop-pick.invariant.ends;
      picks = ap (λ (b : ClothCells). length b.rows) c.set_row.ensures ∙ length-set c.loop-pick.cloth.rows c.loop-pick.pick c.read_on.new.row ∙ c.loop-pick.invariant.picks;
      row = ap length c.read_on.ensures ∙ length-woven face c.pick.new.out ∙ c.pick.ensures.len ∙ ap (λ (m : MachineValue). length m.tie.ends) c.loop-pick.invariant.machine;
      rows = λ k low. ap (λ (b : ClothCells). get_or b.rows k []) c.set_row.ensures
          ∙ one_more [] c.loop-pick.cloth.rows c.loop-pick.pick c.read_on.new.row (λ p. woven face (lift design.tie.ends design.casting (get_or cards.holes p []))) there row
          c.loop-pick.invariant.rows k low;
    }

pub returns : goal.returns
returns c =
    let design = c.args.design.now in
    let cards = c.args.cards.now in
    let end : cards.design.picks ≤ c.loop-pick.pick = omega (arith, c.loop-pick-test.false, c.picks-pick-end.ensures.count) in
    let count : length cards.holes ≡ cards.design.picks = c.picks.ensures.whole.count in
    lifted_cloth design c.face-face.result cards.holes c.loop-pick.cloth c.loop-pick.invariant.ends (c.loop-pick.invariant.picks ∙ sym count)
    (λ k h. c.loop-pick.invariant.rows k (omega (arith, end, count, h)))
    ∙ ap (λ (face : Face). cloth_of_cards design face cards.holes) c.face-face.ensures
