use Rattle.std.proofs.Common.{◌&&◌, arith}
use Rattle.mill_base.proofs.lemmas.Rows.{length_is}
use Rattle.mill_base.proofs.lemmas.Blocks.{line_joined}
use Rattle.mill_base.proofs.bit_block.BitBlock.keep_ahead.Goals as goal

pub join_turned-requires-clause-by : goal.join_turned-requires-clause-by
join_turned-requires-clause-by c = let long = length_is c.self.inside.words c.self.inside.len c.args.self.now c.self.view_is in omega (arith, c.requires)

pub returns : goal.returns
returns c =
    let long = length_is c.self.inside.words c.self.inside.len c.args.self.now c.self.view_is in
    line_joined (λ a b. a && b) c.self.inside.words c.join_turned.new.spare c.join_turned.new.words c.self.inside.len c.args.by c.args.self.now (omega (arith, c.requires)) c.self.view_is
    c.join_turned.ensures.turned c.join_turned.ensures.joined
