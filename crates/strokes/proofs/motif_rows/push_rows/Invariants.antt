use Rattle.std.proofs.Common.{◌≡◌, ◌<◌, ◌*◌, ◌++◌, length, map, drop}
use Rattle.std.specs.List.{flat_map}
use Rattle.std.specs.String.{string_bytes}
use Rattle.strokes.specs.Motifs.{first_width, row_cells, rows_faults}
use Rattle.strokes.proofs.motif_rows.push_rows.Given as goal

abbrev pub invariant-loop-row : goal.invariant-loop-row
invariant-loop-row l =
    let rows = map string_bytes l.rows in
    (0 < l.row → l.width ≡ first_width rows)
    × (length l.cells.items ≡ l.row * first_width rows)
    × (l.cells.items ++ flat_map row_cells (drop l.row rows) ≡ flat_map row_cells rows)
    × (rows_faults l.colours (first_width rows) l.row (drop l.row rows) ≡ rows_faults l.colours (first_width rows) 0 rows)
    × (l.row ≡ 0 → l.width ≡ 0)
