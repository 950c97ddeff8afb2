use Rattle.std.proofs.Common.{◌∙◌, arith}
use Rattle.mill_base.proofs.lemmas.WordBits.{bit_at_shl_from}
use Rattle.mill_base.proofs.stretch.with_piece.Goals as goal

pub returns-clause-inside : goal.returns-clause-inside
returns-clause-inside c i above below =
    c.merged.ensures.inside i (let w = c.requires.within in omega arith) (c.window.ensures.inside i above below)
    ∙ bit_at_shl_from c.args.piece c.args.from 64 i above (let w = c.requires.within in omega arith)
