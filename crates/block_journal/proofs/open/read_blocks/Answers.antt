use Rattle.std.proofs.Common.{length, refl, sym, ◌∙◌, ap, arith}
use Rattle.block_journal.proofs.Reading.{start_read}
use Rattle.block_journal.proofs.open.read_blocks.Goals as goal

pub loop-place-init : goal.loop-place-init
loop-place-init g c =
    let none = ap length c.requires.empty in
    record {
      read = start_read (g.R.Rule.allows c.args.rule.now) c.args.digest.now c.args.bytes.now c.args.marks.now.items c.requires.empty c.requires.header;
      counted = omega arith;
      room = omega arith;
      taken = c.requires.fresh ∙ sym c.requires.empty;
      allows = refl;
      most = refl;
    }

pub returns-clause-few : goal.returns-clause-few
returns-clause-few g c =
    let read = c.loop-place.invariant.read in
    omega (arith, ap length read.marks_are, c.requires.within read.blocks read.good)

pub overflow_add-count : goal.overflow_add-count
overflow_add-count g c =
    let read = c.loop-place.invariant.read in
    omega (arith, c.loop-place.invariant.counted, ap length read.marks_are, c.requires.within read.blocks read.good, c.requires.few)
