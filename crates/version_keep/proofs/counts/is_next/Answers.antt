use Rattle.std.proofs.Common.{arith}
use Rattle.version_keep.specs.Blocks.{marks_of}
use Rattle.version_keep.proofs.Marked.{no_shift}
use Rattle.version_keep.proofs.counts.is_next.Goals as goal

pub returns-then-mark-len-clause-next : goal.returns-then-mark-len-clause-next
returns-then-mark-len-clause-next c = no_shift c.args.session.now (marks_of c.args.core.now.entries) c.args.mark.now (omega (arith, c.if-mark-len.true, c.len.ensures))
