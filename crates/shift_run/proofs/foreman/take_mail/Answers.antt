use Rattle.shift_run.proofs.Working.{breaks_then, goes_then}
use Rattle.shift_run.proofs.foreman.take_mail.Goals as goal

pub returns-in_default-do_mail-clause-breaks : goal.returns-in_default-do_mail-clause-breaks
returns-in_default-do_mail-clause-breaks g c =
    breaks_then c.args.task.now.session.now c.args.task.now.shift c.args.desk.now c.mails.desk c.do_mail.new.desk c.args.done.now.items c.mails.done.items
    c.mails.invariant.goes c.in_default-do_mail.ensures.breaks

pub mails-preserved : goal.mails-preserved
mails-preserved g c = record {
  seat = c.recv_as.ensures.channel.0;
  goes = goes_then c.args.task.now.session.now c.args.task.now.shift c.args.desk.now c.mails.desk c.do_mail.new.desk c.args.done.now.items c.mails.done.items c.do_mail.new.done.items
      c.mails.invariant.goes c.in-Ok-do_mail.ensures.works;
}
