use Rattle.std.proofs.Common.{◌≡◌, false, ap, sym, subst, List, ◌∙◌}
use Rattle.std.specs.Prelude.{All}
use Rattle.point_paper.specs.Papers.{PaperCells}
use Rattle.draft_model.specs.Drawdowns.{bound}
use Rattle.draft_model.specs.Floats.{keeps}
use Rattle.version_journal.specs.Journals.{ActWithMotif, History, IsActOf, replies, versions}
use Rattle.shift_model.specs.Steps.{after_events}
use Rattle.shift_model.proofs.Steps.{acts_are, reached}
use Rattle.shift_model.proofs.StepsLegal.{current, drawn, legal}
use Rattle.shift_model.proofs.laws.every_interleaving_weaves_drawdowns.Goals as goal

pub returns-clause-acts : goal.returns-clause-acts
returns-clause-acts c = acts_are

pub returns-clause-replies : goal.returns-clause-replies
returns-clause-replies c design opening faces events =
    let r = reached design opening faces events in
    let are = acts_are design opening faces events in
    (ap (λ (h : History). h.replies) r.history ∙ ap (replies design opening) are, ap (λ (h : History). h.versions) r.history ∙ ap (versions design opening) are)

pub returns-clause-woven : goal.returns-clause-woven
returns-clause-woven c design opening faces events loom fits casting of acts h =
    drawn c.versions_are_papers_of_the_design.ensures.versions c.lifted_rows_are_the_drawdown.ensures.rows design opening faces (after_events design opening faces events) loom
    (reached design opening faces events) fits casting of (subst (λ (l : List ActWithMotif). All (IsActOf design) l) (sym (acts_are design opening faces events)) acts) h

pub returns-clause-current : goal.returns-clause-current
returns-clause-current c design opening faces events loom h = current design opening faces (after_events design opening faces events) loom (reached design opening faces events) h

pub returns-clause-free : goal.returns-clause-free
returns-clause-free c design opening faces events fits of free =
    subst (λ (h : History). All (λ (version : PaperCells). keeps design (bound design version) ≡ false) h.versions) (sym (reached design opening faces events).history)
    (c.versions_keep_no_float.ensures.all design opening (after_events design opening faces events).acts fits of free)

pub returns-clause-legal : goal.returns-clause-legal
returns-clause-legal c session entries events fits run =
    legal c.versions_are_papers_of_the_design.ensures.versions c.acts_of_the_design_paint_colours_of_its_book.ensures.acts session entries
    (after_events session.design session.opening session.faces events) fits (reached session.design session.opening session.faces events) run
