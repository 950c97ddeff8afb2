use Rattle.std.proofs.Common.{rules, ◌≡◌, sym, subst}
use Rattle.point_paper.specs.Papers.{PaperCells}
use Rattle.strokes.specs.Paints.{after}
use Rattle.strokes.specs.Places.{motif_of_act}
use Rattle.draft_model.specs.Designs.{IsPaperOf}
use Rattle.version_journal.specs.Journals.{with_motif}
use Rattle.version_journal.proofs.Papers.{after_fits, of_the_design}
use Rattle.audit_report.proofs.papers.paint.Goals as goal

pub returns-clause-of_design : goal.returns-clause-of_design
returns-clause-of_design c =
    let session = c.args.session.now in
    let act = c.args.act.now in
    let painted : c.paint_spans.new.paper ≡ after (motif_of_act session.motifs act) c.args.paper.now act = search rules in
    subst (λ (p : PaperCells). IsPaperOf session.design p) (sym painted)
    (after_fits session.design (with_motif session.motifs act) c.args.paper.now (of_the_design session.design session.motifs act c.requires.there.colour c.requires.fits.coloured) c.requires.paper)
