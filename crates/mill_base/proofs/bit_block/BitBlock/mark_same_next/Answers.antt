use Rattle.std.proofs.Common.{arith}
use Rattle.mill_base.specs.Lines.{same}
use Rattle.mill_base.proofs.lemmas.Blocks.{line_joined}
use Rattle.mill_base.proofs.bit_block.BitBlock.mark_same_next.Goals as goal

pub returns : goal.returns
returns c =
    line_joined same c.self.inside.words c.join_turned.new.spare c.join_turned.new.words c.self.inside.len 1 c.args.self.now (omega (arith, c.self.invariant.some)) c.self.view_is
    c.join_turned.ensures.turned c.join_turned.ensures.joined
