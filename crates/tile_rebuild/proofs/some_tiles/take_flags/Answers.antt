use Rattle.std.proofs.Common.{◌≡◌, ◌≢◌, ◌<◌, ◌≤◌, Bool, List, false, length, get_or, set, refl, sym, ap, ◌∙◌, ⊎_elim, arith, length-set, get_or-set_same, get_or-set_other}
use Rattle.std.proofs.lemmas.Bool.{both_ways, cases_eq, cases_lt}
use Rattle.tile_rebuild.proofs.some_tiles.take_flags.Goals as goal

pub overflow_add-from : goal.overflow_add-from
overflow_add-from c = let h = c.in-Some.ensures.some.within in omega (arith, c.requires.few)

pub loop-tile-preserved : goal.loop-tile-preserved
loop-tile-preserved c =
    let tiles = c.args.tiles.now in
    let found = c.args.found.now in
    let mid = c.loop-tile.flags in
    let tile = c.in-Some.tile in
    let value = c.get.result in
    let first = c.in-Some.ensures.some in
    let within = first.within in
    let room : tile < length mid = omega (arith, c.requires.flags, c.loop-tile.invariant.len) in
    record {
      bound = omega arith;
      len = ap length c.set.ensures ∙ length-set mid tile value ∙ c.loop-tile.invariant.len;
      flags = λ t low on.
          ap (λ (xs : List Bool). get_or xs t false) c.set.ensures
          ∙ ⊎_elim
          (λ (here : t ≡ tile). ap (λ k. get_or (set mid tile value) k false) here ∙ get_or-set_same mid tile value false room ∙ c.get.ensures ∙ ap (λ k. get_or found k false) (sym here))
          (λ (off : t ≢ tile). get_or-set_other mid tile t value false off
          ∙ ⊎_elim
          (λ (early : t < c.loop-tile.from). c.loop-tile.invariant.flags t early on)
          (λ (late : c.loop-tile.from ≤ t). absurd (both_ways (get_or tiles t false) (first.before t late (omega arith)) on))
          (cases_lt t c.loop-tile.from))
          (cases_eq t tile);
      others = λ t out.
          ap (λ (xs : List Bool). get_or xs t false) c.set.ensures
          ∙ get_or-set_other mid tile t value false (λ (e : t ≡ tile). both_ways (get_or tiles t false) out (ap (λ k. get_or tiles k false) e ∙ first.here))
          ∙ c.loop-tile.invariant.others t out;
    }

pub returns-clause-flags : goal.returns-clause-flags
returns-clause-flags c = λ t on. ⊎_elim
    (λ (low : t < c.loop-tile.from). c.loop-tile.invariant.flags t low on)
    (λ (late : c.loop-tile.from ≤ t). absurd (both_ways (get_or c.args.tiles.now t false) (c.in_default.ensures.none refl t late) on))
    (cases_lt t c.loop-tile.from)
