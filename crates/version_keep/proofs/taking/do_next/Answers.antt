use Rattle.std.proofs.Common.{arith}
use Rattle.std.proofs.lemmas.List.{length-map}
use Rattle.version_keep.specs.Blocks.{mark_of, marks_of}
use Rattle.version_keep.proofs.Acts.{doing_more, reply_is}
use Rattle.version_keep.proofs.Takes.{room_for_next}
use Rattle.version_keep.proofs.taking.do_next.Goals as goal

pub do_act-requires-clause-spare : goal.do_act-requires-clause-spare
do_act-requires-clause-spare c =
    omega (arith, c.requires.doing.room, room_for_next c.args.session.now (marks_of c.args.core.now.entries) c.args.mark.now c.requires.next, length-map c.args.core.now.entries mark_of)

pub returns-clause-doing : goal.returns-clause-doing
returns-clause-doing c =
    doing_more c.args.session.now c.args.core.now c.do_act.new.core c.args.counts.now.items c.args.mark.now c.in_ok-reply.reply c.requires.doing c.in_ok-reply.ensures.entries c.in_ok-reply.ensures.at
    c.count_mark.new.counts.items c.do_act.ensures.design c.in_ok-reply.ensures.spare (c.count_mark.ensures (marks_of c.args.core.now.entries) c.requires.doing.counted)

pub returns-clause-reply : goal.returns-clause-reply
returns-clause-reply c =
    reply_is c.args.session.now c.args.core.now c.do_act.new.core c.args.counts.now.items c.args.mark.now c.in_ok-reply.reply c.requires.doing c.in_ok-reply.ensures.entries c.in_ok-reply.ensures.at
