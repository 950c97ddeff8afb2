use Rattle.std.proofs.Common.{◌≡◌, ◌∙◌, Bool, List, [], get_or, sym, ap}
use Rattle.mill_base.proofs.lemmas.Lines.{length-line_by}
use Rattle.casting_out.specs.Castings.{CastingValue}
use Rattle.card_image.specs.Sets.{turned_card}
use Rattle.draft_model.specs.Cards.{lift}
use Rattle.loom_threads.specs.Lifts.{row_from}
use Rattle.loom_threads.proofs.lifter.lift_pick.Goals as goal

pub returns-in-Down-clause-row : goal.returns-in-Down-clause-row
returns-in-Down-clause-row c =
    let casting = c.args.casting.now in
    let machine = c.args.machine.now in
    let card : List Bool = get_or c.args.cards.now.holes c.args.pick [] in
    let holes : List Bool = turned_card casting.hooks casting.columns card in
    c.pick-in-Down.ensures.packed holes (length-line_by casting.hooks _ ∙ ap (λ (z : CastingValue). z.hooks) c.requires.casting)
    (c.as_slice.ensures.value ∙ c.turn_into.ensures.card)
    ∙ ap (λ (z : CastingValue). lift machine.tie.ends machine.casting (turned_card z.hooks z.columns card)) c.requires.casting
    ∙ ap (λ face. row_from machine face c.args.cards.now.holes c.args.pick) (sym c.in-Down.is)
