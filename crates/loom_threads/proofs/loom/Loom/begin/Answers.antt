use Rattle.std.proofs.Common.{◌∙◌, List, refl, ap, sym}
use Rattle.shed_publish.specs.declared.newest.Version.{Version}
use Rattle.shed_publish.specs.Versions.{IsPrefix}
use Rattle.loom_threads.specs.Looms.{Knows, LoomValue}
use Rattle.loom_threads.proofs.Turns.{end_knows, knows_seen, on_some}
use Rattle.loom_threads.proofs.loom.Loom.begin.Goals as goal

pub returns-clause-knows : goal.returns-clause-knows
returns-clause-knows c list k =
    let is = sym (ap (λ (l : LoomValue). l.end) c.self.view_is) ∙ c.in-Some.is in
    record { end = c.begin.new.self; is = refl; knows = end_knows list c.args.self.now c.in-Some.end c.begin.new.self is c.begin.ensures.knows k }

pub returns-clause-told : goal.returns-clause-told
returns-clause-told c =
    let is = sym (ap (λ (l : LoomValue). l.end) c.self.view_is) ∙ c.in-Some.is in
    on_some _ ((list : List Version) → Knows list c.args.self.now → IsPrefix list c.begin.new.self.list) c.begin.result
    (λ newest seen list k. knows_seen list c.begin.new.self seen.1 (end_knows list c.args.self.now c.in-Some.end c.begin.new.self is c.begin.ensures.knows k)) c.begin.ensures.some
