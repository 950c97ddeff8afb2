use Rattle.std.proofs.Common.{◌≡◌, ◌<◌, ◌∷◌, ◌++◌, [], List, sym, ap, subst, ◌∙◌, rules, arith}
use Rattle.std.specs.Prelude.{slice_index}
use Rattle.strokes.specs.Spans.{PreparedAct}
use Rattle.studio_core.specs.Cores.{CoreValue}
use Rattle.open_desk.specs.Histories.{count_of}
use Rattle.open_desk.specs.Locks.{IsDone, LockedValue}
use Rattle.open_desk.proofs.Keeping.{done_of, has_room, kept_more, kept_settled, may_do, shaped_same}
use Rattle.open_desk.proofs.locked.Locked.act.Goals as goal

pub do_next-requires-clause-count : goal.do_next-requires-clause-count
do_next-requires-clause-count g c =
    let k = c.self.inside in
    let is = c.self.invariant.1 in
    let may = may_do g.N.Shape.CALLERS g.N.Shape.ACTS c.args.caller c.args.mine (record { core = k.core; opening = k.opening; acts = k.acts.items }) k.counts.items c.deref.result.now k.book.total _ is c.requires.caller c.deref.ensures.value
    c.in_ok-may_act.ensures.ok in
    omega (arith, may.0, is.bounded)

pub do_next-requires-clause-spare : goal.do_next-requires-clause-spare
do_next-requires-clause-spare g c =
    let k = c.self.inside in
    let is = c.self.invariant.1 in
    let value : LockedValue = record { core = k.core; opening = k.opening; acts = k.acts.items } in
    let may = may_do g.N.Shape.CALLERS g.N.Shape.ACTS c.args.caller c.args.mine value k.counts.items c.deref.result.now k.book.total _ is c.requires.caller c.deref.ensures.value c.in_ok-may_act.ensures.ok in
    has_room g.N.Shape.CALLERS g.N.Shape.ACTS c.args.caller value is.is_locked c.requires.caller (subst (λ n. n < g.N.Shape.ACTS) (is.counted c.args.caller c.requires.caller) may.0)

pub invariant_of-self : goal.invariant_of-self
invariant_of-self g c =
    let k = c.self.inside in
    let inv = c.self.invariant in
    let n = g.N.Shape in
    let failed = c.in_err-receipt.ensures in
    let core = c.do_next.new.core in
    let value : LockedValue = record { core = k.core; opening = k.opening; acts = k.acts.items } in (
      shaped_same n.COLUMNS n.PICKS n.COLOURS k.core core (ap (λ (v : CoreValue). v.design) failed.err) inv.0,
      kept_settled n.CALLERS n.ACTS value k.counts.items c.do_next.new.counts.items k.book.total _ core inv.1 failed.same_counts (ap (λ (v : CoreValue). v.design) failed.err) (ap (λ (v : CoreValue). v.entries) failed.err)
          (ap (λ (v : CoreValue). v.spare) failed.err) failed.stays,
      inv.2,
      inv.3,
    )

pub returns-in_err-receipt-clause-after : goal.returns-in_err-receipt-clause-after
returns-in_err-receipt-clause-after g c = (invariant_of-self g c).1.is_locked

pub invariant_of-self-2 : goal.invariant_of-self-2
invariant_of-self-2 g c =
    let k = c.self.inside in
    let inv = c.self.invariant in
    let n = g.N.Shape in
    let did = c.in_ok-receipt.ensures in
    let core = c.do_next.new.core in
    let value : LockedValue = record { core = k.core; opening = k.opening; acts = k.acts.items } in
    let may = may_do n.CALLERS n.ACTS c.args.caller c.args.mine value k.counts.items c.deref.result.now k.book.total _ inv.1 c.requires.caller c.deref.ensures.value c.in_ok-may_act.ensures.ok in
    let acts = c.push_reserved.ensures.items ∙ ap (λ (a : PreparedAct). k.acts.items ++ a ∷ []) c.in_ok-copy.ensures in (
      shaped_same n.COLUMNS n.PICKS n.COLOURS k.core core did.done.design inv.0,
      kept_more n.CALLERS n.ACTS c.args.caller value c.push_reserved.new.self.items k.counts.items c.do_next.new.counts.items k.book.total c.add.new.self.total _ _ c.args.act.now c.in_ok-receipt.receipt.reply core inv.1
          c.requires.caller may.0 did.done acts did.counts c.add.ensures.total c.push_reserved.ensures.capacity,
      inv.2,
      inv.3,
    )

pub returns-clause-after : goal.returns-clause-after
returns-clause-after g c = (invariant_of-self-2 g c).1.is_locked

pub returns-clause-done : goal.returns-clause-done
returns-clause-done g c =
    let k = c.self.inside in
    let inv = c.self.invariant in
    let n = g.N.Shape in
    let did = c.in_ok-receipt.ensures in
    let value : LockedValue = record { core = k.core; opening = k.opening; acts = k.acts.items } in
    let acts = c.push_reserved.ensures.items ∙ ap (λ (a : PreparedAct). k.acts.items ++ a ∷ []) c.in_ok-copy.ensures in
    subst (λ (old : LockedValue). IsDone c.args.caller c.args.act.now c.in_ok-receipt.receipt old (record { core = c.do_next.new.core; opening = k.opening; acts = c.push_reserved.new.self.items })) c.self.view_is
    (done_of n.CALLERS n.ACTS c.args.caller value c.push_reserved.new.self.items k.counts.items k.book.total _ c.args.act.now c.in_ok-receipt.receipt c.do_next.new.core inv.1 c.requires.caller did.done acts did.place did.act)

pub returns-clause-few : goal.returns-clause-few
returns-clause-few g c =
    let k = c.self.inside in
    let value : LockedValue = record { core = k.core; opening = k.opening; acts = k.acts.items } in
    let may = may_do g.N.Shape.CALLERS g.N.Shape.ACTS c.args.caller c.args.mine value k.counts.items c.deref.result.now k.book.total _ c.self.invariant.1 c.requires.caller c.deref.ensures.value c.in_ok-may_act.ensures.ok in
    omega (arith, may.0, may.1)
