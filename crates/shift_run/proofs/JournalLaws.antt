-- What follows from the laws of the journal.
use Rattle.std.proofs.Common.{◌≡◌, ◌+◌, List, ◌++◌, length, take, drop, sym, ap, ◌∙◌}
use Rattle.std.proofs.lemmas.List.{take-append-drop}
use Rattle.point_paper.specs.Papers.{PaperCells}
use Rattle.draft_model.specs.declared.design.Design.{Design}
use Rattle.version_journal.specs.Journals.{ActWithMotif, versions}
use Rattle.shift_run.specs.inner.Laws.{VersionsStay}

-- acts only add versions
pub versions_grow : VersionsStay → (design : Design) (opening : PaperCells) (one other : List ActWithMotif)
    → (rest : List PaperCells) × (versions design opening (one ++ other) ≡ versions design opening one ++ rest)
versions_grow stay design opening one other =
    let n = length (versions design opening one) in
    let all : List PaperCells = versions design opening (one ++ other) in
    (drop n all, sym (take-append-drop n all) ∙ ap (λ l. l ++ drop n all) (stay design opening one other))
