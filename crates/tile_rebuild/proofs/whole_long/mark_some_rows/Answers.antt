use Rattle.std.proofs.Common.{◌≡◌, ◌<◌, ◌≤◌, ◌∙◌, Bool, List, [], false, length, get_or, refl, ap, ⊎_elim, arith, length-set, get_or-set_other}
use Rattle.std.proofs.lemmas.Bool.{both_ways, cases_lt}
use Rattle.mill_base.specs.Grids.{GridCells}
use Rattle.cloth_floats.specs.Windows.{long_of}
use Rattle.tile_rebuild.proofs.lemmas.Passes.{some_rows_more}
use Rattle.tile_rebuild.proofs.whole_long.mark_some_rows.Goals as goal

pub overflow_add-from : goal.overflow_add-from
overflow_add-from c = let h = c.in-Some.ensures.some.within in omega (arith, c.requires.few, c.requires.rows)

pub loop-k-preserved : goal.loop-k-preserved
loop-k-preserved c =
    let old = c.args.grid.now.rows in
    let mid = c.loop-k.grid.rows in
    let k = c.in-Some.k in
    let first = c.in-Some.ensures.some in
    let line = c.long_cells.new.out in
    let marked = λ (row : List Bool). long_of row c.args.lifted c.args.unlifted in
    let within = first.within in
    let room : k < length mid = omega (arith, c.requires.rows, c.loop-k.invariant.height) in
    record {
      bound = omega arith;
      width = ap (λ (g : GridCells). g.width) c.set_row.ensures ∙ c.loop-k.invariant.width;
      height = ap (λ (g : GridCells). length g.rows) c.set_row.ensures ∙ length-set mid k line ∙ c.loop-k.invariant.height;
      line = c.long_cells.ensures.len ∙ c.loop-k.invariant.line;
      done = λ j low on.
          ap (λ (g : GridCells). get_or g.rows j []) c.set_row.ensures
          ∙ some_rows_more old mid c.args.rows.now line c.loop-k.from k marked first room (c.long_cells.ensures.all ∙ ap marked c.row.ensures.row) c.loop-k.invariant.left c.loop-k.invariant.done j low on;
      left = λ j late.
          ap (λ (g : GridCells). get_or g.rows j []) c.set_row.ensures ∙ get_or-set_other mid k j line [] (λ (e : j ≡ k). omega arith)
          ∙ c.loop-k.invariant.left j (let h = first.ahead in omega arith);
    }

pub returns-clause-rows : goal.returns-clause-rows
returns-clause-rows c = λ k on. ⊎_elim
    (λ (low : k < c.loop-k.from). c.loop-k.invariant.done k low on)
    (λ (late : c.loop-k.from ≤ k). absurd (both_ways (get_or c.args.rows.now k false) (c.in_default.ensures.none refl k late) on))
    (cases_lt k c.loop-k.from)
