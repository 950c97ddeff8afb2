use Rattle.std.proofs.Common.{◌≡◌, ◌<◌, ℕ, List, All, sym, subst, arith}
use Rattle.tile_grid.specs.Near.{near_columns, near_rows}
use Rattle.tile_grid.specs.inner.Grids.{IsKept}
use Rattle.tile_grid.proofs.grid.Grid.build.Goals as goal

pub invariant_of-result : goal.invariant_of-result
unfolding near_columns near_rows
invariant_of-result c =
    let tie = c.columns_of_ends-ends.ensures.tie in
    let same = c.columns_of_ends-ends.ensures.columns in
    let wide : c.args.size.columns ≡ c.args.tie.now.columns = c.requires.columns in
    subst
    (λ (ends : List ℕ). IsKept (record { columns = c.args.size.columns; picks = c.args.size.picks; side = c.args.tile; tie = ends; weft_limit = c.args.weft_limit; warp_limit = c.args.warp_limit })
    c.in_ok-near_columns.near_columns c.in_ok-near_rows.near_rows)
    (sym c.in_ok-columns_of_ends.ensures.items)
    (record {
      whole = record {
        columns_limit = (omega (arith, wide, tie.some), omega (arith, wide, tie.columns_limit));
        picks_limit = c.requires.picks;
        side_limit = c.requires.tile;
        ends_limit = (rw same tie.some_end, rw same tie.ends_limit);
        tied = subst (λ (n : ℕ). All (λ column. column < n) c.columns_of_ends-ends.result.now) (sym wide) (rw same tie.there);
        weft_within = c.requires.weft;
        warp_within = c.requires.warp;
      };
      columns_kept = c.in_ok-near_columns.ensures;
      rows_kept = c.in_ok-near_rows.ensures;
    })
