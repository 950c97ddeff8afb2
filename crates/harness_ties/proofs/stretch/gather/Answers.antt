use Rattle.std.proofs.Common.{false, length, ap, get_or, ◌∙◌, arith}
use Rattle.std.proofs.lemmas.List.{length-replicate}
use Rattle.mill_base.proofs.lemmas.Pieces.{all_false, piece_within, none_gathered_to, more_gathered_to, all_gathered_to}
use Rattle.harness_ties.specs.declared.stretch.Stretch.{Stretch}
use Rattle.harness_ties.specs.inner.Stretches.{column_of, stretch_columns}
use Rattle.harness_ties.proofs.Stretches.{length-stretch_columns, get_or-stretch_columns}
use Rattle.harness_ties.proofs.stretch.gather.Goals as goal

abbrev first : Stretch
first = record { column = 0; count = 0; falling = false }

pub loop-stretch-init : goal.loop-stretch-init
loop-stretch-init c =
    none_gathered_to stretch_columns c.args.stretches.now c.args.ends.now (length c.args.columns.now) c.fill.new.self
    (ap length c.fill.ensures ∙ length-replicate (length c.args.columns.now) false) (λ k. ap (λ xs. get_or xs k false) c.fill.ensures ∙ all_false (length c.args.columns.now) k)

pub gather_stretch-requires-clause-ends : goal.gather_stretch-requires-clause-ends
gather_stretch-requires-clause-ends c =
    let s = get_or c.args.stretches.now c.loop-stretch.stretch-index first in
    omega (arith, piece_within stretch_columns c.args.stretches.now c.loop-stretch.stretch-index c.loop-stretch.end s.count first c.loop-stretch-test.true (length-stretch_columns s) c.loop-stretch.invariant.begins, c.requires.ends)

pub overflow_add-end : goal.overflow_add-end
overflow_add-end c =
    let s = get_or c.args.stretches.now c.loop-stretch.stretch-index first in
    omega (arith, piece_within stretch_columns c.args.stretches.now c.loop-stretch.stretch-index c.loop-stretch.end s.count first c.loop-stretch-test.true (length-stretch_columns s) c.loop-stretch.invariant.begins, c.requires.few)

pub loop-stretch-preserved : goal.loop-stretch-preserved
loop-stretch-preserved c =
    let s = get_or c.args.stretches.now c.loop-stretch.stretch-index first in
    more_gathered_to stretch_columns c.args.stretches.now c.loop-stretch.stretch-index c.loop-stretch.end s.count first (column_of s) c.args.ends.now (length c.args.columns.now) c.loop-stretch.columns
    c.gather_stretch.new.columns c.loop-stretch-test.true (length-stretch_columns s) (get_or-stretch_columns s) c.loop-stretch.invariant c.gather_stretch.ensures.len c.gather_stretch.ensures.each

pub returns-clause-len : goal.returns-clause-len
returns-clause-len c = c.loop-stretch.invariant.len

pub returns-clause-row : goal.returns-clause-row
returns-clause-row c =
    all_gathered_to stretch_columns c.args.stretches.now c.loop-stretch.stretch-index c.loop-stretch.end c.args.ends.now (length c.args.columns.now) c.loop-stretch.columns c.loop-stretch-test.false
    c.loop-stretch.invariant
