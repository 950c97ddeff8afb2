use Rattle.std.proofs.Common.{◌∙◌, arith}
use Rattle.float_list.specs.declared.list.TheConstants.{MAX_LISTED}
use Rattle.float_list.proofs.Kept.{kept_room, kept_full}
use Rattle.float_list.proofs.lines.keep.Goals as goal

pub returns-in_ok-push : goal.returns-in_ok-push
returns-in_ok-push c =
    c.in_ok-push.ensures.items ∙ kept_room MAX_LISTED c.args.listed.now.items c.args.float (let test = c.if-len.true in omega (arith, test))

pub returns-else-len : goal.returns-else-len
returns-else-len c =
    kept_full MAX_LISTED c.args.listed.now.items c.args.float c.requires (let test = c.if-len.false in omega (arith, test))
