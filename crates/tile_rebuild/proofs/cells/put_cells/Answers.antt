use Rattle.std.proofs.Common.{◌≡◌, ◌≢◌, ◌+◌, ◌<◌, ℕ, List, Bool, [], false, length, get_or, sym, ap, subst, ◌∙◌, ⊎_elim, arith, length-set, get_or-set_same, get_or-set_other}
use Rattle.std.proofs.lemmas.Bool.{cases_eq}
use Rattle.mill_base.specs.Stretches.{IsLaid}
use Rattle.point_paper.specs.Papers.{BitCells}
use Rattle.tile_rebuild.proofs.lemmas.Puts.{put_rows}
use Rattle.tile_rebuild.proofs.cells.put_cells.Goals as goal

pub loop-b-preserved : goal.loop-b-preserved
loop-b-preserved c =
    let part = c.args.part in
    let n = c.loop-b.b in
    let pick = part.pick + n in
    let rows = c.loop-b.bits.rows in
    let line = c.copy_range.new.self in
    let old = c.args.bits.now.rows in
    let grid = c.args.cells.now.rows in
    let there : pick < length rows = omega (arith, c.loop-b-test.true, c.requires.part.high, c.loop-b.invariant.tall) in
    let was : c.copy_from.new.self ≡ get_or old pick [] = c.copy_from.ensures ∙ c.row.ensures.row ∙ c.loop-b.invariant.past pick (omega arith) in
    let put : get_or c.set_row.new.self.rows pick [] ≡ line = ap (λ (b : BitCells). get_or b.rows pick []) c.set_row.ensures ∙ get_or-set_same rows pick line [] there in
    let kept : (p : ℕ) → p ≢ pick → get_or c.set_row.new.self.rows p [] ≡ get_or rows p [] = λ p off. ap (λ (b : BitCells). get_or b.rows p []) c.set_row.ensures ∙ get_or-set_other rows pick p line [] off in
    let hit : List Bool → ℕ → Bool = λ row i. get_or row (0 + i) false in
    record {
      wide = ap (λ (b : BitCells). b.columns) c.set_row.ensures ∙ c.loop-b.invariant.wide;
      tall = ap (λ (b : BitCells). length b.rows) c.set_row.ensures ∙ length-set rows pick line ∙ c.loop-b.invariant.tall;
      row = c.copy_range.ensures.len ∙ ap length c.copy_from.ensures ∙ c.row.ensures.columns ∙ c.loop-b.invariant.wide;
      laid = λ b h. ⊎_elim
          (λ (here : b ≡ n).
          subst (λ (j : ℕ). IsLaid (get_or old (part.pick + j) []) part.column part.width (hit (get_or grid j [])) (get_or c.set_row.new.self.rows (part.pick + j) [])) (sym here)
          (subst (λ (xs : List Bool). IsLaid (get_or old pick []) part.column part.width (hit (get_or grid n [])) xs) (sym put)
          (subst (λ (xs : List Bool). IsLaid xs part.column part.width (hit (get_or grid n [])) line) was
          (subst (λ (xs : List Bool). IsLaid c.copy_from.new.self part.column part.width (hit xs) line) c.row-in-loop-b.ensures.row c.copy_range.ensures))))
          (λ (before : b ≢ n).
          subst (λ (xs : List Bool). IsLaid (get_or old (part.pick + b) []) part.column part.width (hit (get_or grid b [])) xs) (sym (kept (part.pick + b) (λ same. before (omega (arith, same)))))
          (c.loop-b.invariant.laid b (omega arith)))
          (cases_eq b n);
      below = λ p h. kept p (λ same. omega (arith, same)) ∙ c.loop-b.invariant.below p h;
      past = λ p h. kept p (λ same. omega (arith, same)) ∙ c.loop-b.invariant.past p (omega arith);
    }

pub returns-clause-cells : goal.returns-clause-cells
returns-clause-cells c =
    let part = c.args.part in
    put_rows part c.args.cells.now c.args.bits.now c.loop-b.bits c.loop-b.invariant.wide c.loop-b.invariant.tall (λ b h. c.loop-b.invariant.laid b (omega (arith, c.loop-b-test.false)))
    c.loop-b.invariant.below (λ p h. c.loop-b.invariant.past p (omega (arith, c.loop-b-test.false, c.loop-b.auto.b-end)))
