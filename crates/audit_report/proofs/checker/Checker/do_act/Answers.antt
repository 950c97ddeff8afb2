use Rattle.std.proofs.Common.{rules}
use Rattle.audit_model.specs.States.Move.{Do}
use Rattle.audit_report.specs.Checkers.{state_of}
use Rattle.audit_report.proofs.Keeping.{does_keep}
use Rattle.audit_report.proofs.checker.Checker.do_act.Goals as goal

pub returns : goal.returns
returns c = record {
  move = Do c.args.entry;
  can = c.requires.can;
  first = c.requires.first;
  state = search rules;
  coming = search rules;
  keeps = does_keep c.args.session.now (state_of c.args.self.now) _ c.args.entry c.args.self.now.done.items c.args.self.now.least.items _ c.args.self.now.paper _ c.args.self.now.digests.items _
      c.requires.keeps c.requires.part c.requires.can c.in_ok-do_entry.ensures.paper c.in_ok-do_entry.ensures.of_design c.in_ok-add_digests.ensures (search rules) (search rules);
}
