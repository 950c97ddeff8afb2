use Rattle.std.proofs.Common.{◌∙◌, Some, ap, sym}
use Rattle.std.specs.Arc.{arc_value}
use Rattle.std.specs.Option.{option_map}
use Rattle.loom_threads.proofs.Repeats.{last_is_kept}
use Rattle.loom_threads.proofs.weaver.last_of_equal.Goals as goal

pub returns-in-Some : goal.returns-in-Some
returns-in-Some c =
    last_is_kept c.last.result c.args.repeats.now _ c.args.cards.now c.last.ensures.value
    (ap (option_map (λ cards. arc_value cards)) c.in-Some.is ∙ ap Some (sym c.deref.ensures ∙ c.equals.ensures.0 c.if-equals.true))
