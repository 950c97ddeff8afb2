use Rattle.std.proofs.Common.{◌∙◌, arith}
use Rattle.std.proofs.lemmas.List.FromFn.{get_or-map-range_with_len}
use Rattle.mill_base.proofs.lemmas.Spreads.{lane, lane_is}
use Rattle.mill_base.proofs.spread.sixteen.Goals as goal

pub returns-clause-bytes : goal.returns-clause-bytes
returns-clause-bytes c i h =
    get_or-map-range_with_len (lane c.to_le_bytes.result c.args.on c.args.off) 0 16 i i 0 h (omega arith)
    ∙ lane_is c.args.bits c.args.on c.args.off i c.to_le_bytes.result h c.to_le_bytes.ensures
