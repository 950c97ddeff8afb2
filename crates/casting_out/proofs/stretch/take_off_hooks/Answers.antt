use Rattle.std.proofs.Common.{◌+◌, get_or, arith}
use Rattle.mill_base.proofs.lemmas.Pieces.{piece_within, more_laid_to, all_laid_to}
use Rattle.casting_out.specs.declared.stretch.Stretch.{Stretch}
use Rattle.casting_out.specs.inner.Stretches.{stretch_hooks}
use Rattle.casting_out.proofs.Stretches.{length-stretch_hooks, get_or-stretch_hooks}
use Rattle.casting_out.proofs.stretch.take_off_hooks.Goals as goal

abbrev first : Stretch
first = record { hook = 0; count = 0 }

pub copy_range-requires-clause-room : goal.copy_range-requires-clause-room
copy_range-requires-clause-room c =
    let s = get_or c.args.stretches.now c.loop-stretch.stretch-index first in
    omega (arith, piece_within stretch_hooks c.args.stretches.now c.loop-stretch.stretch-index c.loop-stretch.column s.count first c.loop-stretch-test.true (length-stretch_hooks s) c.loop-stretch.invariant.begins, c.loop-stretch.invariant.len)

pub overflow_add-column : goal.overflow_add-column
overflow_add-column c =
    let s = get_or c.args.stretches.now c.loop-stretch.stretch-index first in
    omega (arith, piece_within stretch_hooks c.args.stretches.now c.loop-stretch.stretch-index c.loop-stretch.column s.count first c.loop-stretch-test.true (length-stretch_hooks s) c.loop-stretch.invariant.begins, c.requires.few)

pub loop-stretch-preserved : goal.loop-stretch-preserved
loop-stretch-preserved c =
    let s = get_or c.args.stretches.now c.loop-stretch.stretch-index first in
    more_laid_to stretch_hooks c.args.stretches.now c.loop-stretch.stretch-index c.loop-stretch.column s.count first (λ i. s.hook + i) c.args.hooks.now c.loop-stretch.columns c.copy_range.new.self
    c.loop-stretch-test.true (length-stretch_hooks s) (get_or-stretch_hooks s) c.loop-stretch.invariant c.copy_range.ensures

pub returns-clause-row : goal.returns-clause-row
returns-clause-row c =
    all_laid_to stretch_hooks c.args.stretches.now c.loop-stretch.stretch-index c.loop-stretch.column c.args.hooks.now c.loop-stretch.columns c.loop-stretch-test.false c.loop-stretch.invariant
