use Rattle.std.proofs.Common.{refl}
use Rattle.open_desk.proofs.Closing.{one_history}
use Rattle.open_desk.proofs.closed.close.Goals as goal

pub returns-clause-history : goal.returns-clause-history
returns-clause-history c =
    let args = c.args in
    one_history args.core.design args.opening args.acts.items c.deref.result.now args.core.entries c.entries.result.now args.lists.items c.deref-2.result.now c.deref.ensures.value c.entries.ensures c.deref-2.ensures.value
    c.requires.history (c.in_default.ensures.none refl) c.requires.counted
