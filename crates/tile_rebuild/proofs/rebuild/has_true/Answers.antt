use Rattle.std.proofs.Common.{◌+◌, false, get_or, refl, sym, arith}
use Rattle.mill_base.proofs.lemmas.Belows.{any_none}
use Rattle.tile_rebuild.proofs.lemmas.Picks.{first_within}
use Rattle.tile_rebuild.proofs.rebuild.has_true.Goals as goal

pub returns-in-Some : goal.returns-in-Some
returns-in-Some c = first_within c.args.row.now c.args.from c.args.count c.in-Some.k c.in-Some.ensures.some

pub returns-in-None : goal.returns-in-None
returns-in-None c = sym (any_none (λ a. get_or c.args.row.now (c.args.from + a) false) c.args.count (λ a h. c.in-None.ensures.none refl (c.args.from + a) (omega arith)))
