use Rattle.strokes.proofs.MotifFits.{act_motif_small, act_motif_colours}
use Rattle.strokes.proofs.laws.the_motif_of_an_act_is_one_of_the_motifs.Goals as goal

pub returns : goal.returns
returns c = record { small = act_motif_small; colours = act_motif_colours }
