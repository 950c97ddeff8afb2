use Rattle.std.proofs.Common.{◌∙◌, sym}
use Rattle.card_image.proofs.Alike.{begins_short}
use Rattle.card_image.proofs.so_far.begins.Goals as goal

pub returns-then-at-whole : goal.returns-then-at-whole
returns-then-at-whole c = sym (begins_short c.args.first.now c.args.whole.now c.loop-at.at c.loop-at-test.true c.if-at-whole.true) ∙ c.loop-at.invariant
