use Rattle.std.proofs.Common.{false, get_or, sym, ◌∙◌, arith}
use Rattle.mill_base.proofs.lemmas.Pieces.{piece_within, none_laid_to, more_laid_to, all_laid_to}
use Rattle.harness_ties.specs.declared.stretch.Stretch.{Stretch}
use Rattle.harness_ties.specs.inner.Stretches.{column_of, stretch_columns}
use Rattle.harness_ties.proofs.Stretches.{length-stretch_columns, get_or-stretch_columns}
use Rattle.harness_ties.proofs.stretch.lay.Goals as goal

abbrev first : Stretch
first = record { column = 0; count = 0; falling = false }

pub loop-stretch-init : goal.loop-stretch-init
loop-stretch-init c = none_laid_to stretch_columns c.args.stretches.now c.args.columns.now c.args.ends.now c.requires.ends

pub lay_stretch-requires-clause-ends : goal.lay_stretch-requires-clause-ends
lay_stretch-requires-clause-ends c =
    let s = get_or c.args.stretches.now c.loop-stretch.stretch-index first in
    omega (arith, piece_within stretch_columns c.args.stretches.now c.loop-stretch.stretch-index c.loop-stretch.end s.count first c.loop-stretch-test.true (length-stretch_columns s) c.loop-stretch.invariant.begins, c.loop-stretch.invariant.len)

pub overflow_add-end : goal.overflow_add-end
overflow_add-end c =
    let s = get_or c.args.stretches.now c.loop-stretch.stretch-index first in
    omega (arith, piece_within stretch_columns c.args.stretches.now c.loop-stretch.stretch-index c.loop-stretch.end s.count first c.loop-stretch-test.true (length-stretch_columns s) c.loop-stretch.invariant.begins, c.requires.few)

pub loop-stretch-preserved : goal.loop-stretch-preserved
loop-stretch-preserved c =
    let s = get_or c.args.stretches.now c.loop-stretch.stretch-index first in
    more_laid_to stretch_columns c.args.stretches.now c.loop-stretch.stretch-index c.loop-stretch.end s.count first (column_of s) c.args.columns.now c.loop-stretch.ends c.lay_stretch.new.ends
    c.loop-stretch-test.true (length-stretch_columns s) (get_or-stretch_columns s) c.loop-stretch.invariant c.lay_stretch.ensures

pub returns-clause-len : goal.returns-clause-len
returns-clause-len c = c.loop-stretch.invariant.len ∙ sym c.requires.ends

pub returns-clause-line : goal.returns-clause-line
returns-clause-line c =
    all_laid_to stretch_columns c.args.stretches.now c.loop-stretch.stretch-index c.loop-stretch.end c.args.columns.now c.loop-stretch.ends c.loop-stretch-test.false c.loop-stretch.invariant
