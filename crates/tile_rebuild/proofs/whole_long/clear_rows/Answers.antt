use Rattle.std.proofs.Common.{◌≡◌, ◌≢◌, ◌<◌, ◌≤◌, ◌∙◌, ℕ, Bool, List, [], false, length, get_or, replicate, set, ap, ⊎_elim, arith, length-set, get_or-set_same, get_or-set_other}
use Rattle.std.proofs.lemmas.Bool.{cases_eq, cases_lt}
use Rattle.std.proofs.lemmas.List.{get_or-replicate, get_or_past, length-replicate}
use Rattle.mill_base.specs.Grids.{GridCells}
use Rattle.tile_rebuild.proofs.whole_long.clear_rows.Goals as goal

all_clear : (n x : ℕ) → get_or (replicate n false) x false ≡ false
all_clear n x = ⊎_elim (λ (low : x < n). get_or-replicate n x false false low)
    (λ (past : n ≤ x). get_or_past (replicate n false) x false (omega (arith, length-replicate n false)))
    (cases_lt x n)

pub loop-k-preserved : goal.loop-k-preserved
loop-k-preserved c =
    let mid = c.loop-k.grid.rows in
    let row = c.fill.new.self in
    let k = c.loop-k.k in
    let n = length c.args.row.now in
    let test = c.loop-k-test.true in
    let room : k < length mid = omega (arith, c.height-k-end.ensures, c.loop-k.invariant.height) in
    record {
      width = ap (λ (g : GridCells). g.width) c.set_row.ensures ∙ c.loop-k.invariant.width;
      height = ap (λ (g : GridCells). length g.rows) c.set_row.ensures ∙ length-set mid k row ∙ c.loop-k.invariant.height;
      cells = λ x j low.
          ap (λ (g : GridCells). get_or (get_or g.rows j []) x false) c.set_row.ensures
          ∙ ⊎_elim
          (λ (last : j ≡ k).
          ap (λ m. get_or (get_or (set mid k row) m []) x false) last ∙ ap (λ (xs : List Bool). get_or xs x false) (get_or-set_same mid k row [] room ∙ c.fill.ensures) ∙ all_clear n x)
          (λ (other : j ≢ k). ap (λ (xs : List Bool). get_or xs x false) (get_or-set_other mid k j row [] other) ∙ c.loop-k.invariant.cells x j (omega arith))
          (cases_eq j k);
    }

pub returns-clause-cells : goal.returns-clause-cells
returns-clause-cells c = λ x j. ⊎_elim
    (λ (low : j < c.loop-k.k). c.loop-k.invariant.cells x j low)
    (λ (past : c.loop-k.k ≤ j).
    let test = c.loop-k-test.false in
    ap (λ (xs : List Bool). get_or xs x false) (get_or_past c.loop-k.grid.rows j [] (omega (arith, c.height-k-end.ensures, c.loop-k.invariant.height))))
    (cases_lt j c.loop-k.k)
