use Rattle.std.proofs.Common.{ap, sym, ◌∙◌}
use Rattle.strokes.specs.Acts.{parsed_act, act_of_text, act_of_kind}
use Rattle.strokes.proofs.act.Act.parse.Goals as goal

pub returns-in_default-clause-act : goal.returns-in_default-clause-act
unfolding parsed_act
returns-in_default-clause-act c = sym (ap (act_of_text c.args.colours c.args.size c.args.motifs.now) (sym c.of-words.ensures ∙ c.in_default.ensures.word.0))

pub returns-in-Some-kind-clause-act : goal.returns-in-Some-kind-clause-act
unfolding parsed_act
returns-in-Some-kind-clause-act c =
    c.act.ensures.act
    ∙ sym (ap (act_of_text c.args.colours c.args.size c.args.motifs.now) (sym c.of-words.ensures ∙ c.in-Some.ensures.word)
    ∙ ap (λ kind. act_of_kind c.args.colours c.args.size c.args.motifs.now kind c.next.new.self) (sym c.kind.ensures ∙ c.in-Some-kind.is))

pub returns-in-None-clause-act : goal.returns-in-None-clause-act
unfolding parsed_act
returns-in-None-clause-act c =
    sym (ap (act_of_text c.args.colours c.args.size c.args.motifs.now) (sym c.of-words.ensures ∙ c.in-Some.ensures.word)
    ∙ ap (λ kind. act_of_kind c.args.colours c.args.size c.args.motifs.now kind c.next.new.self) (sym c.kind.ensures ∙ c.in-None.is))
