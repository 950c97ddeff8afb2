use Rattle.std.proofs.Common.{◌≡◌, sum_by, length, take}
use Rattle.session_file.specs.Counts.{told}
use Rattle.session_file.proofs.counts.count_cells.Given as goal

abbrev pub invariant-loop-number : goal.invariant-loop-number
invariant-loop-number l = l.sum ≡ told (sum_by (λ motif. length motif.motif.cells) (take l.number l.motifs))
