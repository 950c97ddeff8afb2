use Rattle.std.proofs.Common.{◌≡◌, ◌+◌, ◌++◌, ◌<◌, [], List, length, refl, sym, ap, ◌∙◌, append-nil, arith}
use Rattle.std.specs.Prelude.{sum_by}
use Rattle.open_desk.specs.Passes.{PassValue, told}
use Rattle.open_desk.specs.declared.receipt.Receipt.{Receipt}
use Rattle.open_desk.proofs.Gathering.{amount_more, gathered_more, none_left, parts_more, room_left}
use Rattle.open_desk.proofs.pass.gather.Goals as goal

pub loop-pass-init : goal.loop-pass-init
loop-pass-init g c =
    let rest = c.into_iter-pass-iterator.ensures.into_iter_gives.0 in (
      ap (λ (l : List (List Receipt)). l ++ told c.into_iter-pass-iterator.result.rest.items) c.requires.empty ∙ ap told rest,
      omega (arith, c.requires.none.0, ap length rest),
      omega (arith, c.requires.none.1, ap (λ (l : List PassValue). sum_by length (told l)) rest),
      refl,
    )

pub push_reserved-requires : goal.push_reserved-requires
push_reserved-requires g c =
    let inv = c.loop-pass.invariant in
    let low : length c.loop-pass.lists.items < length c.args.passes.items = room_left c.loop-pass.lists.items c.in-Some.pass c.loop-pass.pass-iterator.rest.items _ c.args.passes.items c.in-Some.ensures.steps.0 inv.0 in
    omega (arith, low, inv.3, c.requires.room)

pub loop-pass-preserved : goal.loop-pass-preserved
loop-pass-preserved g c =
    let inv = c.loop-pass.invariant in
    let steps = c.in-Some.ensures.steps.0 in
    let r = c.pass.inside.receipts.items in
    let of_pass : r ≡ c.in-Some.pass.receipts = ap (λ (p : PassValue). p.receipts) c.pass.view_is in (
      gathered_more c.loop-pass.lists.items c.push_reserved.new.self.items c.of.result c.in-Some.pass c.loop-pass.pass-iterator.rest.items _ c.args.passes.items c.push_reserved.ensures.items (c.of.ensures ∙ of_pass) steps inv.0,
      parts_more c.loop-pass.all.parts c.merge.new.self.parts c.pass.inside.share.parts c.in-Some.pass c.loop-pass.pass-iterator.rest.items _ _ c.merge.ensures.parts c.pass.invariant.2 steps inv.1,
      amount_more c.loop-pass.all.amount c.merge.new.self.amount c.pass.inside.share.amount r c.in-Some.pass c.loop-pass.pass-iterator.rest.items _ _ c.merge.ensures.amount c.pass.invariant.0.counted of_pass steps inv.2,
      c.push_reserved.ensures.capacity ∙ inv.3,
    )

pub returns-clause-lists : goal.returns-clause-lists
returns-clause-lists g c =
    let rest = c.loop-pass.pass-iterator.rest in
    let done = none_left rest.items (omega (arith, rest.ok, c.in-None.ensures.steps.0)) in
    sym (append-nil c.loop-pass.lists.items) ∙ ap (λ (l : List PassValue). c.loop-pass.lists.items ++ told l) (sym done) ∙ c.loop-pass.invariant.0

pub returns-clause-parts : goal.returns-clause-parts
returns-clause-parts g c =
    let rest = c.loop-pass.pass-iterator.rest in
    let done = none_left rest.items (omega (arith, rest.ok, c.in-None.ensures.steps.0)) in
    omega (arith, ap length done, c.loop-pass.invariant.1)

pub returns-clause-amount : goal.returns-clause-amount
returns-clause-amount g c =
    let rest = c.loop-pass.pass-iterator.rest in
    let done = none_left rest.items (omega (arith, rest.ok, c.in-None.ensures.steps.0)) in
    omega (arith, ap (λ (l : List PassValue). sum_by length (told l)) done, c.loop-pass.invariant.2)
