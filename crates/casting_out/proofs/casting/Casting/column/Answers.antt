use Rattle.std.proofs.Common.{◌≡◌, ◌<◌, None, rules, ap, ◌∙◌, arith}
use Rattle.std.proofs.lemmas.List.{get_or_read}
use Rattle.casting_out.specs.Castings.{CastingValue, column_of}
use Rattle.casting_out.proofs.WithoutFault.{none_exactly}
use Rattle.casting_out.proofs.casting.Casting.column.Goals as goal

pub returns-clause-none : goal.returns-clause-none
returns-clause-none c =
    let hooks : c.self.inside.hooks ≡ c.args.self.now.hooks = ap (λ (v : CastingValue). v.hooks) c.self.view_is in
    let low : c.args.hook < c.self.inside.hooks = omega (arith, c.requires) in
    none_exactly c.args.self.now c.args.hook c.index.result.now (search rules) c.requires
    (get_or_read c.self.inside.columns_of_hooks.items c.args.hook c.index.result.now (omega (arith, c.self.invariant.2)) c.index.ensures None
    ∙ c.self.invariant.3 c.args.hook low ∙ ap (λ (v : CastingValue). column_of v.columns c.args.hook) c.self.view_is)
