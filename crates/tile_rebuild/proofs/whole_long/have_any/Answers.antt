use Rattle.std.proofs.Common.{◌≡◌, ◌≢◌, ◌<◌, ◌≤◌, ◌∙◌, Bool, List, [], false, get_or, refl, sym, ap, ⊎_elim, arith}
use Rattle.std.proofs.lemmas.Bool.{both_ways, cases_eq, cases_lt}
use Rattle.tile_rebuild.proofs.whole_long.have_any.Goals as goal

pub overflow_add-from : goal.overflow_add-from
overflow_add-from c = let h = c.in-Some.ensures.some.within in omega (arith, c.requires.few, c.requires.rows)

pub loop-k-preserved : goal.loop-k-preserved
loop-k-preserved c =
    let first = c.in-Some.ensures.some in
    let rows = c.args.grid.now.rows in
    let k = c.in-Some.k in
    record {
      bound = (let h = first.within in omega arith);
      none = λ j low on x. ⊎_elim
          (λ (last : j ≡ k).
          ap (λ n. get_or (get_or rows n []) x false) last ∙ ap (λ (xs : List Bool). get_or xs x false) (sym c.row.ensures.row) ∙ c.any.ensures.none c.if-any.false x)
          (λ (other : j ≢ k). ⊎_elim
          (λ (early : j < c.loop-k.from). c.loop-k.invariant.none j early on x)
          (λ (late : c.loop-k.from ≤ j). absurd (both_ways (get_or c.args.rows.now j false) (first.before j late (omega arith)) on))
          (cases_lt j c.loop-k.from))
          (cases_eq j k);
    }

pub returns : goal.returns
returns c = λ _ k on x. ⊎_elim
    (λ (low : k < c.loop-k.from). c.loop-k.invariant.none k low on x)
    (λ (late : c.loop-k.from ≤ k). absurd (both_ways (get_or c.args.rows.now k false) (c.in_default.ensures.none refl k late) on))
    (cases_lt k c.loop-k.from)
