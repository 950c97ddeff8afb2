use Rattle.point_paper.proofs.lemmas.Bits.{same_bits}
use Rattle.point_paper.proofs.laws.a_bit_paper_is_its_cells.Goals as goal

pub returns : goal.returns
returns c = same_bits
