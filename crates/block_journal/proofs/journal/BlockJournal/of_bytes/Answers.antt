use Rattle.std.proofs.Common.{arith}
use Rattle.block_journal.proofs.Reading.{place_near}
use Rattle.block_journal.proofs.journal.BlockJournal.of_bytes.Goals as goal

pub invariant_of-result : goal.invariant_of-result
invariant_of-result g c =
    let few = c.requires.few in
    record {
      all = omega (arith, c.in_ok-place.ensures.few, c.most-most.ensures, c.len.ensures, c.read_back.new.marks.ok.0, c.in_ok-marks.ensures.capacity, c.in_ok-place.ensures.room);
      block = omega (arith, c.in_ok-buffer.ensures.capacity, c.min.ensures);
      few = omega (arith, c.in_ok-place.ensures.few, c.most-most.ensures, c.len.ensures, c.read_back.new.marks.ok.0, few);
      near = place_near (g.R.Rule.allows c.args.rule.now) c.args.digest.now c.args.bytes.now c.read_back.new.marks.items c.in_ok-place.place c.requires.digest c.in_ok-place.ensures.stands;
      added = omega arith;
    }
