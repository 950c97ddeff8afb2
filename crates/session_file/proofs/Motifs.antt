-- Motifs that were added.
use Rattle.std.proofs.Common.{◌≡◌, ℕ, ◌+◌, ◌<◌, List, [], ◌∷◌, ◌++◌, length, take, get_or, sum_by, slice_get, min, ◌-◌, ◌^◌, ap, sym, ◌∙◌, subst, arith}
use Rattle.std.proofs.lemmas.List.{take_more}
use Rattle.std.proofs.lemmas.List.Elements.{All-push}
use Rattle.std.proofs.lemmas.List.Sums.{sum_by_push}
use Rattle.std.proofs.lemmas.Option.{slice_get-get_or}
use Rattle.mill_base.specs.declared.size.Size.{Size}
use Rattle.strokes.specs.Cells.{HasColours, MotifCells, IsNoLarger}
use Rattle.strokes.specs.Motifs.{motif_of}
use Rattle.strokes.specs.Places.{cells_of_motif}
use Rattle.strokes.specs.declared.motifs.NamedMotif.{NamedMotif}
use Rattle.session_file.specs.Counts.{told}
use Rattle.session_file.specs.inner.Drafts.{FitMotifs}

pub fit_more : (colours : ℕ) (size : Size) (old new : List NamedMotif) (name : List ℕ) (rows : List (List ℕ)) → new ≡ old ++ record { name = name; motif = motif_of rows } ∷ []
    → IsNoLarger (motif_of rows) size → HasColours colours (motif_of rows) → FitMotifs colours size old → FitMotifs colours size new
fit_more colours size old new name rows added small coloured fit =
    subst (λ (motifs : List NamedMotif). FitMotifs colours size motifs) (sym added)
    (All-push (λ (motif : NamedMotif). IsNoLarger motif.motif size × HasColours colours motif.motif) old (record { name = name; motif = motif_of rows }) fit (small, coloured))

-- the cells of one motif more
pub cells_more : (motifs : List NamedMotif) (k : ℕ) (cells : MotifCells) → k < length motifs → cells ≡ cells_of_motif (slice_get motifs k)
    → sum_by (λ (motif : NamedMotif). length motif.motif.cells) (take (k + 1) motifs) ≡ sum_by (λ (motif : NamedMotif). length motif.motif.cells) (take k motifs) + length cells.cells
cells_more motifs k cells below here =
    let none : NamedMotif = record { name = []; motif = cells } in
    ap (sum_by (λ (motif : NamedMotif). length motif.motif.cells)) (take_more motifs k none below)
    ∙ sum_by_push (λ (motif : NamedMotif). length motif.motif.cells) (take k motifs) (get_or motifs k none)
    ∙ ap (λ (c : MotifCells). sum_by (λ (motif : NamedMotif). length motif.motif.cells) (take k motifs) + length c.cells)
    (sym (here ∙ ap cells_of_motif (slice_get-get_or motifs k none below)))

-- one number more of a sum that is told
pub told_more : (old new sum more all : ℕ) → old ≡ told sum → new ≡ min (old + more) (2 ^ 64 - 1) → all ≡ sum + more → new ≡ told all
told_more old new sum more all is next whole = omega (arith, is, next, whole)
