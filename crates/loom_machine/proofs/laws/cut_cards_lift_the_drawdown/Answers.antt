use Rattle.std.proofs.Common.{◌≡◌, ◌<◌, ◌∙◌, ℕ, pos, [], length, sym, subst}
use Rattle.std.specs.Prelude.{All}
use Rattle.mill_base.specs.Lines.{line_by}
use Rattle.mill_base.proofs.lemmas.Lines.{length-line_by, get_or-line_by}
use Rattle.point_paper.specs.Papers.{PaperCells}
use Rattle.draft_model.specs.declared.design.Design.{Design}
use Rattle.draft_model.specs.Cloths.{cloth}
use Rattle.draft_model.specs.Drawdowns.{bound}
use Rattle.loom_machine.proofs.laws.cut_cards_lift_the_drawdown.Goals as goal

picks : (design : Design) (paper : PaperCells) → length (bound design paper).rows ≡ paper.picks
unfolding bound
picks design paper = length-line_by paper.picks _

pub returns : goal.returns
returns c design paper p is fits low =
    let there : All (λ column. column < length design.casting.columns) design.tie.ends = subst (λ (n : ℕ). All (λ column. column < n) design.tie.ends) (sym fits.casting) fits.tied in
    let below : p < length (bound design paper).rows = subst (λ (n : ℕ). p < n) (sym (picks design paper)) low in
    c.cut_cards_lift_the_cloth.ensures.up design.tie.ends design.casting (bound design paper) p is there below
    ∙ sym (get_or-line_by (length (bound design paper).rows) (λ pick. line_by (length design.tie.ends) (λ e. cloth design.tie.ends (bound design paper) (pos e) (pos pick))) p [] below)
