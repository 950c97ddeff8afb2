use Rattle.audit_model.specs.States.Move.{Weave}
use Rattle.audit_report.specs.Checkers.{state_of}
use Rattle.audit_report.proofs.Keeping.{weaves_keep_all}
use Rattle.audit_report.proofs.checker.Checker.weave.Goals as goal

pub returns : goal.returns
returns c =
    let e = c.in_ok-put_repeat.ensures in
    let old = c.args.self.now in
    let new = c.put_repeat.new.self in
    record {
      move = Weave c.args.loom c.args.woven;
      can = c.requires.can;
      first = c.requires.first;
      state = e.state;
      coming = e.coming;
      keeps = weaves_keep_all c.args.session.now (state_of old) (state_of new) c.args.loom c.args.woven old.done.items new.done.items old.least.items new.least.items old.paper new.paper old.digests.items new.digests.items
          c.requires.keeps c.requires.part c.requires.can e.state e.least e.done e.paper e.digests;
    }
