use Rattle.std.proofs.Common.{arith}
use Rattle.version_keep.proofs.Marked.{few_painters}
use Rattle.version_keep.proofs.counts.know_painter.Goals as goal

pub returns : goal.returns
returns c = omega (arith, c.requires.mark.painter, few_painters c.args.session.now c.args.mark.now.shift c.requires.fits c.requires.mark.shift)
