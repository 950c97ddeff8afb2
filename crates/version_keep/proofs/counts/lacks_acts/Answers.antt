use Rattle.std.proofs.Common.{◌+◌, arith}
use Rattle.std.specs.Prelude.{slice_index}
use Rattle.version_keep.proofs.Marked.{lacks_none, lacks_there}
use Rattle.version_keep.proofs.counts.lacks_acts.Goals as goal

pub returns-then-count-starts : goal.returns-then-count-starts
returns-then-count-starts c =
    let s = c.requires.starts in
    lacks_there c.args.session.now c.args.shift c.args.count (slice_index c.args.starts.now c.args.shift) (slice_index c.args.starts.now (c.args.shift + 1))
    (s.each c.args.shift (omega (arith, c.requires.shift))) (s.each (c.args.shift + 1) (omega (arith, c.requires.shift))) (omega (arith, c.if-count-starts.true))

pub returns-else-count-starts : goal.returns-else-count-starts
returns-else-count-starts c =
    lacks_none c.args.session.now c.args.shift c.args.count (slice_index c.args.starts.now (c.args.shift + 1))
    (c.requires.starts.each (c.args.shift + 1) (omega (arith, c.requires.shift))) (omega (arith, c.if-count-starts.false))
