use Rattle.std.proofs.Common.{rules}
use Rattle.audit_model.specs.States.Move.{Begin}
use Rattle.audit_report.specs.Checkers.{state_of}
use Rattle.audit_report.proofs.Keeping.{begins_keep}
use Rattle.audit_report.proofs.checker.Checker.begin_shift.Goals as goal

pub returns : goal.returns
returns c = record {
  move = Begin;
  can = c.requires.can;
  first = c.requires.first;
  state = search rules;
  coming = search rules;
  keeps = begins_keep c.args.session.now (state_of c.args.self.now) _ c.args.self.now.done.items c.args.self.now.least.items _ _ _ _ c.newest-newest.result c.requires.keeps c.requires.part c.requires.can
      c.newest-newest.ensures (search rules) (search rules) (search rules);
}
