use Rattle.std.proofs.Common.{◌≡◌, ◌≢◌, ◌+◌, ℕ, Bool, List, false, get_or, sym, ap, subst, ◌∙◌, ⊎_elim, arith}
use Rattle.std.proofs.lemmas.Bool.{cases_eq}
use Rattle.mill_base.specs.Grids.{GridCells, grid_cell}
use Rattle.draft_model.specs.Cells.{bound_by}
use Rattle.tile_rebuild.specs.inner.Cells.{AreColumnsLong, raw_along, raw_up}
use Rattle.tile_rebuild.proofs.lemmas.Picks.{bound_in_pick}
use Rattle.tile_rebuild.proofs.rebuild.bind_picks.Goals as goal

pub loop-b-preserved : goal.loop-b-preserved
loop-b-preserved c =
    let design = c.args.design.now in
    let part = c.args.part in
    let along = raw_along design part c.args.lines.now.picks.items in
    let up = raw_up design part c.args.lines.now.columns.items in
    let n = c.loop-b.b in
    record {
      rows = c.bind_pick.ensures.rows;
      room = c.mark_pick.ensures.room;
      hits = subst (λ (g : GridCells). AreColumnsLong design part up g) (sym c.mark_pick.ensures.hits) c.loop-b.invariant.hits;
      cells = c.bind_pick.ensures.cells;
      bound = λ a b ha hb. ⊎_elim
          (λ (here : b ≡ n).
          subst (λ (j : ℕ). grid_cell c.bind_pick.new.cells a j ≡ bound_by design (along j) (up a) (part.column + a) (part.pick + j)) (sym here)
          (bound_in_pick design part along up c.loop-b.room.hits c.read_pick.new.out (grid_cell c.bind_pick.new.cells a n) (get_or c.mark_pick.new.room.long (part.column + a) false) a n c.requires.fits
          c.read_pick.ensures.cells (c.mark_pick.ensures.long a ha) c.loop-b.invariant.hits ha c.loop-b-test.true (omega (arith, ha, c.requires.part.wide)) (c.bind_pick.ensures.here a ha)))
          (λ (before : b ≢ n).
          ap (λ (xs : List Bool). get_or xs a false) (c.bind_pick.ensures.others b before) ∙ c.loop-b.invariant.bound a b ha (omega arith))
          (cases_eq b n);
    }
