use Rattle.std.proofs.Common.{◌∙◌, Option, refl, ap, subst, sym}
use Rattle.std.specs.Option.{option_map_or}
use Rattle.shed_publish.specs.Ends.{EndValue, SawOther, new_end}
use Rattle.loom_threads.specs.Looms.{LoomValue}
use Rattle.loom_threads.proofs.Turns.{end_knows}
use Rattle.loom_threads.proofs.loom.Loom.meet.Goals as goal

pub returns-clause-knows : goal.returns-clause-knows
returns-clause-knows c list k =
    let is = sym (ap (λ (l : LoomValue). l.end) c.self.view_is) ∙ c.in-Some.is in
    record { end = c.meet.new.self; is = refl; knows = end_knows list c.args.self.now c.in-Some.end c.meet.new.self is c.meet.ensures.knows k }

pub returns-clause-other : goal.returns-clause-other
returns-clause-other c unmet =
    let is = sym (ap (λ (l : LoomValue). l.end) c.self.view_is) ∙ c.in-Some.is in
    subst (λ (o : Option EndValue). SawOther c.args.known c.args.told.desk.now.list (option_map_or (λ (e : EndValue). e) o new_end) c.meet.new.self) (sym is) (c.meet.ensures.other unmet)
