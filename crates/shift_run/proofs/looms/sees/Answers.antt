use Rattle.std.proofs.Common.{refl, ap, ◌∙◌}
use Rattle.shed_publish.specs.Ends.{DeskValue}
use Rattle.shift_run.proofs.Weaving.{knows_seen}
use Rattle.shift_run.proofs.looms.sees.Goals as goal

pub returns-clause-knows : goal.returns-clause-knows
returns-clause-knows c met =
    knows_seen c.args.end.now.list c.meet.new.self c.meet.new.self.end refl c.meet.ensures.reads (c.meet.ensures.met met ∙ ap (λ (d : DeskValue). d.list) c.tell.ensures.list)
