use Rattle.std.proofs.Common.{[], ◌++◌, ap, ◌∙◌, append-nil}
use Rattle.mill_base.specs.Phrases.{phrase_text}
use Rattle.mill_io.proofs.lemmas.Shown.{shown_nil}
use Rattle.report_text.proofs.telling.Telling.worded.Goals as goal

pub returns-clause-told : goal.returns-clause-told
returns-clause-told c =
    ap (λ l. c.args.before.now ++ (l ++ (phrase_text c.args.phrase ++ []))) shown_nil ∙ ap (λ l. c.args.before.now ++ l) (append-nil (phrase_text c.args.phrase))
