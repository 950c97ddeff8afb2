use Rattle.std.proofs.Common.{ap, ◌∙◌}
use Rattle.shift_run.specs.declared.desk.Desk.{Desk}
use Rattle.shift_run.proofs.Starts.{new_loom}
use Rattle.shift_run.proofs.run.start_looms.Goals as goal

pub looms-preserved : goal.looms-preserved
looms-preserved c =
    let i = c.looms.invariant in
    let e = c.in_ok-loom.ensures in
    record {
      looms = new_loom c.args.session.now c.looms.number c.looms.looms.items c.push.new.self.items c.in_ok-loom.field-0 i.looms e.kind e.repeats e.spare c.in_ok-push.ensures.items;
      core = ap (λ (d : Desk). d.core) c.loom.ensures.desk ∙ i.core;
      list = ap (λ (d : Desk). d.end.list) c.loom.ensures.desk ∙ i.list;
    }
