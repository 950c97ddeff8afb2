use Rattle.std.proofs.Common.{◌∙◌, length, take, sym, ap}
use Rattle.version_journal.specs.Journals.{history, versions, gone_on}
use Rattle.version_journal.proofs.Histories.{replies_stay, versions_stay, length-replies, joined}
use Rattle.version_journal.proofs.laws.acts_go_on_from_where_others_ended.Goals as goal

pub returns-clause-replies : goal.returns-clause-replies
returns-clause-replies c design opening one other =
    ap (λ h. take (length one) h.replies) (joined design opening one other)
    ∙ ap (λ n. take n (gone_on design (history design opening one) other).replies) (sym (length-replies design opening one)) ∙ replies_stay design (history design opening one) other

pub returns-clause-versions : goal.returns-clause-versions
returns-clause-versions c design opening one other =
    ap (λ h. take (length (versions design opening one)) h.versions) (joined design opening one other) ∙ versions_stay design (history design opening one) other
