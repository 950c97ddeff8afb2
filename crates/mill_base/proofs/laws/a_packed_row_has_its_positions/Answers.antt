use Rattle.std.proofs.Common.{◌*◌, ◌<◌, subst, ◌∙◌, arith}
use Rattle.std.proofs.lemmas.List.{get_or_past}
use Rattle.std.specs.Prelude.{false}
use Rattle.mill_base.proofs.lemmas.Packs.{length-packed}
use Rattle.mill_base.proofs.lemmas.Packs.{packed_bit, same_packed}
use Rattle.mill_base.proofs.laws.a_packed_row_has_its_positions.Goals as goal

pub returns-clause-length : goal.returns-clause-length
returns-clause-length c row = length-packed row

pub returns-clause-bits : goal.returns-clause-bits
returns-clause-bits c row k h = packed_bit row k (omega arith)

pub returns-clause-pad : goal.returns-clause-pad
returns-clause-pad c row k past h = packed_bit row k (subst (λ n. k < 8 * n) (length-packed row) h) ∙ get_or_past row k false past

pub returns-clause-same : goal.returns-clause-same
returns-clause-same c row line = same_packed row line
