use Rattle.std.proofs.Common.{◌+◌, false, length, ap, get_or, ◌∙◌, arith}
use Rattle.std.proofs.lemmas.List.{length-replicate}
use Rattle.mill_base.proofs.lemmas.Pieces.{all_false, piece_within, none_gathered_to, more_gathered_to, all_gathered_to}
use Rattle.casting_out.specs.declared.stretch.Stretch.{Stretch}
use Rattle.casting_out.specs.inner.Stretches.{stretch_hooks}
use Rattle.casting_out.proofs.Stretches.{length-stretch_hooks, get_or-stretch_hooks, put_joins}
use Rattle.casting_out.proofs.stretch.put_on_hooks.Goals as goal

abbrev first : Stretch
first = record { hook = 0; count = 0 }

pub loop-stretch-init : goal.loop-stretch-init
loop-stretch-init c =
    none_gathered_to stretch_hooks c.args.stretches.now c.args.columns.now (length c.args.hooks.now) c.fill.new.self
    (ap length c.fill.ensures ∙ length-replicate (length c.args.hooks.now) false) (λ k. ap (λ xs. get_or xs k false) c.fill.ensures ∙ all_false (length c.args.hooks.now) k)

pub copy_range-requires-clause-there : goal.copy_range-requires-clause-there
copy_range-requires-clause-there c =
    let s = get_or c.args.stretches.now c.loop-stretch.stretch-index first in
    omega (arith, piece_within stretch_hooks c.args.stretches.now c.loop-stretch.stretch-index c.loop-stretch.column s.count first c.loop-stretch-test.true (length-stretch_hooks s) c.loop-stretch.invariant.begins, c.requires.columns)

pub overflow_add-column : goal.overflow_add-column
overflow_add-column c =
    let s = get_or c.args.stretches.now c.loop-stretch.stretch-index first in
    omega (arith, piece_within stretch_hooks c.args.stretches.now c.loop-stretch.stretch-index c.loop-stretch.column s.count first c.loop-stretch-test.true (length-stretch_hooks s) c.loop-stretch.invariant.begins, c.requires.few)

pub loop-stretch-preserved : goal.loop-stretch-preserved
loop-stretch-preserved c =
    let ss = c.args.stretches.now in
    let k = c.loop-stretch.stretch-index in
    let s = get_or ss k first in
    more_gathered_to stretch_hooks ss k c.loop-stretch.column s.count first (λ i. s.hook + i) c.args.columns.now (length c.args.hooks.now) c.loop-stretch.hooks c.copy_range.new.self
    c.loop-stretch-test.true (length-stretch_hooks s) (get_or-stretch_hooks s) c.loop-stretch.invariant c.copy_range.ensures.len
    (put_joins ss k c.loop-stretch.column first c.args.columns.now (length c.args.hooks.now) c.loop-stretch.hooks c.copy_range.new.self c.loop-stretch-test.true c.requires.rising
    (c.requires.hooks k first c.loop-stretch-test.true).some c.loop-stretch.invariant c.copy_range.ensures)

pub returns-clause-row : goal.returns-clause-row
returns-clause-row c =
    all_gathered_to stretch_hooks c.args.stretches.now c.loop-stretch.stretch-index c.loop-stretch.column c.args.columns.now (length c.args.hooks.now) c.loop-stretch.hooks c.loop-stretch-test.false
    c.loop-stretch.invariant
