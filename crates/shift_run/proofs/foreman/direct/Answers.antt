use Rattle.shift_run.proofs.Working.{breaks_then, did_all, did_none, did_some, goes_then}
use Rattle.shift_run.proofs.foreman.direct.Goals as goal

pub returns-in_default : goal.returns-in_default
returns-in_default g c = did_none c.args.session.now c.args.shift c.args.desk.now c.requires.fits c.requires.shift c.requires.design c.requires.ready c.requires.room

pub returns-in_default-take_mail : goal.returns-in_default-take_mail
returns-in_default-take_mail g c =
    did_some c.args.session.now c.args.shift c.args.desk.now c.take_mail.new.desk c.in-Ok.done.items c.in-Ok.ensures c.in_default-take_mail.ensures.breaks

pub returns-in_default-do_missing : goal.returns-in_default-do_missing
returns-in_default-do_missing g c =
    did_some c.args.session.now c.args.shift c.args.desk.now c.do_missing.new.desk c.in-Ok.done.items c.in-Ok.ensures
    (breaks_then c.args.session.now c.args.shift c.args.desk.now c.take_mail.new.desk c.do_missing.new.desk c.in-Ok.done.items c.take_mail.new.done.items
    c.in-Ok-take_mail.ensures.works c.in_default-do_missing.ensures.breaks)

pub returns : goal.returns
returns g c =
    did_all c.args.session.now c.args.shift c.args.desk.now c.do_missing.new.desk c.in-Ok.done.items c.do_missing.new.done.items c.in-Ok.ensures
    (goes_then c.args.session.now c.args.shift c.args.desk.now c.take_mail.new.desk c.do_missing.new.desk c.in-Ok.done.items c.take_mail.new.done.items c.do_missing.new.done.items
    c.in-Ok-take_mail.ensures.works c.in-Ok-do_missing.ensures.works) c.in-Ok-do_missing.ensures.whole
