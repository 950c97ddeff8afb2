use Rattle.std.proofs.Common.{ap}
use Rattle.shift_run.proofs.Published.{list_published, ready_after}
use Rattle.shift_run.proofs.desk.Desk.commit.Goals as goal

pub publish_reply-requires : goal.publish_reply-requires
publish_reply-requires g c =
    list_published c.in_ok-reply.reply c.args.self.now c.commit.new.self c.requires.ready c.in_ok-reply.ensures.answered (ap (λ core. core.design) c.in_ok-reply.ensures.rest)
    c.know_core.ensures.of_cards

pub returns-clause-ready : goal.returns-clause-ready
returns-clause-ready g c =
    ready_after c.in_ok-reply.reply c.args.self.now c.commit.new.self c.publish_reply.new.end c.requires.ready c.in_ok-reply.ensures.answered
    (ap (λ core. core.design) c.in_ok-reply.ensures.rest) c.know_core.ensures.of_cards c.in_ok-publish_reply.ensures.ok

pub returns-clause-desk : goal.returns-clause-desk
returns-clause-desk g c = (returns-clause-ready g c).of_desk
