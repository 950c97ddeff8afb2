use Rattle.std.proofs.Common.{arith}
use Rattle.version_keep.specs.Blocks.{marks_of}
use Rattle.version_keep.proofs.Takes.{marks_to, rest_to, stop_at}
use Rattle.version_keep.proofs.taking.take_block.Goals as goal

pub returns-then-not-good-clause-answer : goal.returns-then-not-good-clause-answer
returns-then-not-good-clause-answer c =
    stop_at c.args.session.now (marks_of c.args.core.now.entries) c.args.block.now (marks_of c.loop-at.core.entries) c.loop-at.at _ c.in_ok-good.good (omega (arith, c.loop-at-test.true))
    c.in_ok-good.ensures.answer c.if-not-good.true c.loop-at.invariant.rest

pub loop-at-preserved : goal.loop-at-preserved
loop-at-preserved c =
    let next = c.in_ok-good.ensures.taken c.if-not-good.false in
    record {
      doing = c.in_ok-good.ensures.doing;
      marks = marks_to (marks_of c.args.core.now.entries) c.args.block.now (marks_of c.loop-at.core.entries) (marks_of c.take_mark.new.core.entries) c.loop-at.at _ (omega (arith, c.loop-at-test.true))
          c.loop-at.invariant.marks next;
      rest = rest_to c.args.session.now (marks_of c.args.core.now.entries) c.args.block.now (marks_of c.loop-at.core.entries) (marks_of c.take_mark.new.core.entries) c.loop-at.at _ c.in_ok-good.good
          (omega (arith, c.loop-at-test.true)) c.in_ok-good.ensures.answer c.if-not-good.false next c.loop-at.invariant.rest;
    }
