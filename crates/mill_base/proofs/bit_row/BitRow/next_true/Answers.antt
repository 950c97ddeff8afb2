use Rattle.std.proofs.Common.{◌≡◌, length, sym, refl, ap, ◌∙◌, arith}
use Rattle.std.proofs.lemmas.List.{get_or_past}
use Rattle.mill_base.proofs.lemmas.Rows.{length_is}
use Rattle.mill_base.proofs.lemmas.Stretches.{cell_is}
use Rattle.mill_base.proofs.lemmas.FirstBits.{first_true}
use Rattle.mill_base.proofs.bit_row.BitRow.next_true.Goals as goal

pub returns-then-from-self-clause-none : goal.returns-then-from-self-clause-none
returns-then-from-self-clause-none c _ k from =
    let long = length_is c.self.inside.words.items c.self.inside.len c.args.self.now c.self.view_is in
    let past = c.if-from-self.true in
    get_or_past c.args.self.now k _ (omega arith)

pub first_set-requires-clause-words : goal.first_set-requires-clause-words
first_set-requires-clause-words c =
    let e : length c.deref.result.now ≡ length c.self.inside.words.items = ap length c.deref.ensures.value in
    let enough = c.self.invariant.enough in
    omega arith

pub returns-in_err-found-clause-none : goal.returns-in_err-found-clause-none
returns-in_err-found-clause-none c is k from =
    sym (cell_is c.self.inside.words.items c.deref.result.now c.self.inside.len c.args.self.now c.deref.ensures.value c.self.invariant c.self.view_is k)
    ∙ c.in_err-found.ensures.none refl k from

pub overflow_cast-result : goal.overflow_cast-result
overflow_cast-result c =
    let first = first_true c.self.inside.words.items c.deref.result.now c.self.inside.len c.args.self.now c.args.from c.in_ok-found.found c.deref.ensures.value c.self.invariant c.self.view_is c.in_ok-found.ensures.some in
    let within = first.within in
    let long = length_is c.self.inside.words.items c.self.inside.len c.args.self.now c.self.view_is in
    omega arith

pub returns-clause-some : goal.returns-clause-some
returns-clause-some c = first_true c.self.inside.words.items c.deref.result.now c.self.inside.len c.args.self.now c.args.from c.in_ok-found.found c.deref.ensures.value c.self.invariant c.self.view_is c.in_ok-found.ensures.some
