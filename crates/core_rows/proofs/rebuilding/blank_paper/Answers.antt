use Rattle.std.proofs.Common.{◌<◌, length, refl, sym, subst}
use Rattle.point_paper.specs.Papers.{PaperCells}
use Rattle.point_paper.proofs.lemmas.Cells.{cell_of-paper_by}
use Rattle.draft_model.specs.Designs.{IsPaperOf}
use Rattle.core_rows.proofs.rebuilding.blank_paper.Goals as goal

pub returns : goal.returns
returns c =
    let design = c.args.design.now in
    subst (λ (p : PaperCells). IsPaperOf design p) (sym c.in_ok-blank.ensures)
    (record {
      columns = refl;
      picks = refl;
      colours = λ column pick x y. subst (λ n. n < length design.book) (sym (cell_of-paper_by design.size.columns design.size.picks (λ column pick. 0) column pick x y)) c.requires.weaves.0;
    })
