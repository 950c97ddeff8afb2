use Rattle.std.proofs.Common.{◌≡◌, ◌∙◌, ◌<◌, ℕ, length, ap, subst, sym}
use Rattle.casting_out.specs.Cards.{at_hooks}
use Rattle.loom_machine.proofs.Lifts.{read, whole_columns}
use Rattle.loom_machine.proofs.reading.read_columns.Goals as goal

pub returns-then-columns-hooks-clause-row : goal.returns-then-columns-hooks-clause-row
returns-then-columns-hooks-clause-row c =
    let casting = c.args.casting.now in
    let all : length casting.columns ≡ casting.hooks = sym c.columns.ensures.count ∙ c.if-columns-hooks.true ∙ c.hooks.ensures.count in
    let long = c.read_card.ensures.len ∙ c.requires.columns ∙ all in
    whole_columns casting.columns c.read_card.new.hooks casting.hooks all long (λ k low. c.columns_of_a_full_machine_have_their_own_hooks.ensures casting k c.columns.ensures.casting all low)
    ∙ ap (at_hooks casting.columns) (read casting.hooks c.args.card.now c.read_card.new.hooks long (λ k low. c.read_card.ensures.bits k (subst (λ (n : ℕ). k < n) (sym (c.requires.columns ∙ all)) low)))

pub returns-then-columns-hooks-clause-packed : goal.returns-then-columns-hooks-clause-packed
returns-then-columns-hooks-clause-packed c holes wide are =
    let casting = c.args.casting.now in
    let all : length casting.columns ≡ casting.hooks = sym c.columns.ensures.count ∙ c.if-columns-hooks.true ∙ c.hooks.ensures.count in
    let long = c.read_card.ensures.len ∙ c.requires.columns ∙ all in
    whole_columns casting.columns c.read_card.new.hooks casting.hooks all long (λ k low. c.columns_of_a_full_machine_have_their_own_hooks.ensures casting k c.columns.ensures.casting all low)
    ∙ ap (at_hooks casting.columns) (c.read_card.ensures.inverse holes (wide ∙ sym (c.requires.columns ∙ all)) are)

pub returns-clause-row : goal.returns-clause-row
returns-clause-row c =
    let casting = c.args.casting.now in
    c.to_columns.ensures.row
    ∙ ap (at_hooks casting.columns) (read casting.hooks c.args.card.now c.read_card-2.new.hooks (c.read_card-2.ensures.len ∙ c.requires.hooks)
    (λ k low. c.read_card-2.ensures.bits k (subst (λ (n : ℕ). k < n) (sym c.requires.hooks) low)))

pub returns-clause-packed : goal.returns-clause-packed
returns-clause-packed c holes wide are =
    c.to_columns.ensures.row ∙ ap (at_hooks c.args.casting.now.columns) (c.read_card-2.ensures.inverse holes (wide ∙ sym c.requires.hooks) are)
