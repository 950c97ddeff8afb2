use Rattle.std.proofs.Common.{arith}
use Rattle.studio_core.proofs.Flags.{IsTold, flags_by_none, none_by_flags}
use Rattle.studio_core.proofs.answering.kept_float.Goals as goal

pub returns-then-not-any-clause-float : goal.returns-then-not-any-clause-float
returns-then-not-any-clause-float c =
    let fits = c.requires.fits in
    let of = c.requires.bits in
    let told : IsTold c.args.design.now c.args.bits.now = c.a_cloth_keeps_a_float_where_one_is_told.ensures c.args.design.now c.args.bits.now (let h = fits.ends.0 in omega arith) (let h = fits.picks.0 in let k = of.picks in omega arith) in
    none_by_flags c.args.design.now c.args.bits.now c.args.flags.now fits of told c.requires.flags (c.any.ensures.none c.if-not-any.true)

pub returns-clause-none : goal.returns-clause-none
returns-clause-none c =
    let fits = c.requires.fits in
    let of = c.requires.bits in
    let told : IsTold c.args.design.now c.args.bits.now = c.a_cloth_keeps_a_float_where_one_is_told.ensures c.args.design.now c.args.bits.now (let h = fits.ends.0 in omega arith) (let h = fits.picks.0 in let k = of.picks in omega arith) in
    flags_by_none c.args.design.now c.args.bits.now c.args.flags.now c.first_float.result of told c.requires.flags c.first_float.ensures.first
