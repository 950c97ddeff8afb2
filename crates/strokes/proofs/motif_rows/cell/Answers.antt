use Rattle.std.proofs.Common.{◌≡◌, sym, refl, ◌∙◌}
use Rattle.std.specs.Prelude.{codes}
use Rattle.std.specs.Cmp.Lexicographic.{same_text}
use Rattle.mill_base.specs.Words.{number_of}
use Rattle.strokes.proofs.motif_rows.cell.Goals as goal

pub returns-then-eq : goal.returns-then-eq
unfolding number_of
returns-then-eq c =
    let same : c.args.word.now ≡ c.as_slice.result.now = same_text c.args.word.now c.as_slice.result.now (sym c.if-eq.true ∙ c.eq.ensures) in
    let dot : c.args.word.now ≡ codes "." = same ∙ c.as_slice.ensures in
    rw dot (refl, refl)
