use Rattle.crossbeam_channel.specs.Claims.{IsSeatAt}
use Rattle.crossbeam_channel.specs.Ends.{receives_on}
use Rattle.shift_run.specs.inner.Foreman.{GoesOn}
use Rattle.shift_run.proofs.foreman.take_mail.Given as goal

abbrev pub invariant-mails : goal.invariant-mails
invariant-mails g l = record {
  seat : IsSeatAt (receives_on l.from) l.pass;
  goes : GoesOn l.task.session.now l.task.shift l.initial.desk l.initial.done.items l.desk l.done.items;
}
