use Rattle.strokes.proofs.MotifFits.{motif_whole, motif_small, motif_colours}
use Rattle.strokes.proofs.laws.rows_without_a_fault_make_a_motif.Goals as goal

pub returns : goal.returns
returns c = record { whole = motif_whole; small = motif_small; colours = motif_colours }
