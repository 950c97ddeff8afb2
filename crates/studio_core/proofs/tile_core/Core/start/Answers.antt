use Rattle.std.proofs.Common.{◌≡◌, List, Bool, false, replicate, refl, ap, ◌∙◌, arith}
use Rattle.std.proofs.lemmas.Result.{err_from_is_err_and}
use Rattle.tile_grid.specs.Tiles.{tiles}
use Rattle.tile_rebuild.specs.Tiles.{grid_of}
use Rattle.version_journal.specs.Entries.{Kept}
use Rattle.studio_core.proofs.Cores.{core_is, started_core}
use Rattle.studio_core.proofs.tile_core.Core.start.Goals as goal

-- a mark for each tile, and none set
no_marks : (c : goal.In_ok-opened) (marks : List Bool) → marks ≡ replicate c.tiles-tiles.result false → marks ≡ replicate (tiles (grid_of c.args.design)) false
no_marks c marks are = are ∙ ap (λ n. replicate n false) (c.tiles-tiles.ensures.count ∙ ap tiles c.in_ok-grid.ensures)

pub invariant_of-result : goal.invariant_of-result
invariant_of-result c =
    let design = c.args.design in
    let journal = c.in_ok-journal.journal in
    let spare = ap (λ (k : Kept). k.spare) c.in_ok-journal.ensures in
    record {
      is_core = started_core design c.args.opening c.in_ok-opened.opened journal.entries journal.spare c.in_ok-bind.bind c.in_ok-check.check c.requires.fits c.requires.paper c.in_ok-opened.ensures.opened
          (ap (λ (k : Kept). k.entries) c.in_ok-journal.ensures) (omega (arith, c.ranges.acts.fits, spare)) (no_marks c c.in_ok-bind.bind c.in_ok-bind.ensures) (no_marks c c.in_ok-check.check c.in_ok-check.ensures);
      of_grid = c.in_ok-grid.ensures;
      for_rooms = c.open.ensures.rooms;
    }

pub returns-clause-core : goal.returns-clause-core
returns-clause-core c =
    let all = c.in_ok-opened.ensures.opened in
    core_is c.args.design c.args.opening c.in_ok-journal.journal.entries _ c.in_ok-journal.journal.spare _ _ _ c.in_ok-opened.opened.bits _ c.in_ok-bind.bind _ c.in_ok-check.check _ c.in_ok-opened.opened.flags _
    (ap (λ (k : Kept). k.entries) c.in_ok-journal.ensures) (ap (λ (k : Kept). k.spare) c.in_ok-journal.ensures) all.cards_are all.bits_are (no_marks c c.in_ok-bind.bind c.in_ok-bind.ensures)
    (no_marks c c.in_ok-check.check c.in_ok-check.ensures) all.flags_are

pub returns-clause-at : goal.returns-clause-at
returns-clause-at c = record { painted = refl; last = refl; current = (c.args.opening, refl, c.in_ok-opened.ensures.opened.cards_are) }

pub returns-in_err-opened-clause-refusal : goal.returns-in_err-opened-clause-refusal
returns-in_err-opened-clause-refusal c =
    let p = err_from_is_err_and c.from_residual-in_err-opened.result c.from_residual-in_err-opened.ensures.1 in
    rw (p.1, p.2) c.in_err-opened.ensures.refusal
