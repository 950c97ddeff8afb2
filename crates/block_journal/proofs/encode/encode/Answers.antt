use Rattle.std.proofs.Common.{arith}
use Rattle.block_journal.proofs.Blocks.{encoded_more, encoded_all}
use Rattle.block_journal.proofs.encode.encode.Goals as goal

pub loop-mark-preserved : goal.loop-mark-preserved
loop-mark-preserved c = record {
  bytes = encoded_more c.loop-mark.out.items c.put_mark.new.out.items c.args.block.now c.loop-mark.mark-index _ _ c.loop-mark-test.true c.put_mark.ensures.bytes c.loop-mark.invariant.bytes;
  long = omega (arith, c.put_mark.ensures.length, c.loop-mark.invariant.long);
  room = omega (arith, c.put_mark.ensures.room, c.loop-mark.invariant.room);
}

pub returns-clause-bytes : goal.returns-clause-bytes
returns-clause-bytes c =
    encoded_all c.loop-mark.out.items c.push_reserved.new.self.items c.args.block.now c.loop-mark.mark-index (omega (arith, c.loop-mark-test.false)) c.push_reserved.ensures.items c.loop-mark.invariant.bytes
