use Rattle.std.proofs.Common.{◌≡◌, ◌<◌, ℕ, Bool, true, false, length, refl, sym, subst, arith}
use Rattle.std.specs.Prelude.{if◌then◌else◌}
use Rattle.point_paper.specs.Papers.{PaperCells, after_span, cell_of, covers, paper_by}
use Rattle.point_paper.specs.declared.paper.Span.{Span}
use Rattle.point_paper.proofs.lemmas.Cells.{cell_of-paper_by}
use Rattle.draft_model.specs.declared.design.Design.{Design}
use Rattle.draft_model.specs.Designs.{IsPaperOf}
use Rattle.core_rows.proofs.rebuilding.paint.Goals as goal

either_below : (b : Bool) (m n top : ℕ) → m < top → n < top → (if b then m else n) < top
either_below true m n top one other = one
either_below false m n top one other = other

-- colours of the book are painted over colours of the book
painted : (design : Design) (old new : PaperCells) (span : Span) → IsPaperOf design old → new ≡ paper_by old.columns old.picks (after_span old span) → span.colour < length design.book
    → IsPaperOf design new
painted design old new span is are colour =
    subst (λ (p : PaperCells). IsPaperOf design p) (sym are)
    (record {
      columns = is.columns;
      picks = is.picks;
      colours = λ x y hx hy.
          subst (λ n. n < length design.book) (sym (cell_of-paper_by old.columns old.picks (after_span old span) x y hx hy))
          (either_below (covers span x y) span.colour (cell_of old x y) (length design.book) colour (is.colours x y hx hy));
    })

pub returns : goal.returns
returns g c = painted c.args.design.now c.args.paper.now c.paint_span.new.self _ c.requires c.paint_span.ensures (omega (arith, c.colours.ensures))
