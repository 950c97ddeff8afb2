use Rattle.std.proofs.Common.{◌≡◌, ◌+◌, sym, subst, ap, ◌∙◌}
use Rattle.std.specs.Prelude.{None}
use Rattle.tile_marks.specs.Marks.{NoneFrom}
use Rattle.version_journal.specs.Journals.{float_kept, reply_to_commit}
use Rattle.card_image.specs.Sets.{cards_of}
use Rattle.studio_core.specs.Cores.{CoreValue}
use Rattle.studio_core.proofs.Cores.{cards_right, flags_right, float_right, none_some}
use Rattle.studio_core.proofs.tile_core.Core.answer.Goals as goal

pub kept_float-requires-clause-flags : goal.kept_float-requires-clause-flags
kept_float-requires-clause-flags c =
    flags_right _ c.self.invariant.is_core (subst (λ (core : CoreValue). NoneFrom core.bind 0) (sym c.self.view_is) c.requires.bind)
    (subst (λ (core : CoreValue). NoneFrom core.check 0) (sym c.self.view_is) c.requires.check)

pub returns-in-Some-clause-reply : goal.returns-in-Some-clause-reply
returns-in-Some-clause-reply c =
    let kept = float_right _ c.kept_float.result c.self.invariant.is_core (subst (λ (core : CoreValue). NoneFrom core.bind 0) (sym c.self.view_is) c.requires.bind) c.kept_float.ensures.float in
    ap (reply_to_commit (c.args.self.now.version + 1)) (sym c.in-Some.is ∙ kept ∙ ap (λ (core : CoreValue). float_kept core.design core.paper) c.self.view_is)

pub returns-in_err-self-inside-clause-refused : goal.returns-in_err-self-inside-clause-refused
returns-in_err-self-inside-clause-refused c = λ float some.
    let kept = float_right _ c.kept_float.result c.self.invariant.is_core (subst (λ (core : CoreValue). NoneFrom core.bind 0) (sym c.self.view_is) c.requires.bind) c.kept_float.ensures.float in
    absurd (none_some c.kept_float.result float c.in_default.is (kept ∙ ap (λ (core : CoreValue). float_kept core.design core.paper) c.self.view_is ∙ some))

pub returns-clause-reply : goal.returns-clause-reply
returns-clause-reply c =
    let kept = float_right _ c.kept_float.result c.self.invariant.is_core (subst (λ (core : CoreValue). NoneFrom core.bind 0) (sym c.self.view_is) c.requires.bind) c.kept_float.ensures.float in
    let none : None ≡ float_kept c.args.self.now.design c.args.self.now.paper = sym c.in_default.is ∙ kept ∙ ap (λ (core : CoreValue). float_kept core.design core.paper) c.self.view_is in
    ap (λ (core : CoreValue). reply_to_commit (core.version + 1) None) c.self.view_is ∙ ap (reply_to_commit (c.args.self.now.version + 1)) none

pub returns-clause-answered : goal.returns-clause-answered
returns-clause-answered c =
    let clear = subst (λ (core : CoreValue). NoneFrom core.bind 0) (sym c.self.view_is) c.requires.bind in (
      ap (λ (core : CoreValue). core.version + 1) c.self.view_is,
      cards_right _ c.in_ok-self-inside.field-0.value c.self.invariant.is_core clear c.in_ok-self-inside.ensures ∙ ap (λ (core : CoreValue). cards_of core.design core.paper) c.self.view_is,
    )
