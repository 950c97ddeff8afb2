use Rattle.std.proofs.Common.{ℕ, ◌==◌, ◌||◌, length, sym, subst}
use Rattle.std.specs.Prelude.{slice_index}
use Rattle.tile_grid.specs.Near.{kinds_near}
use Rattle.tile_grid.specs.inner.Tables.{IsTable}
use Rattle.tile_grid.specs.inner.Walks.{near_so_far}
use Rattle.tile_grid.proofs.Walked.{kinds_walked, table_alike}
use Rattle.tile_grid.proofs.walk.walk.Goals as goal

pub returns : goal.returns
returns c =
    let kinds = c.args.kinds.now in
    let found = near_so_far kinds c.args.limit (length kinds) in
    table_alike c.args.count found (λ a b. a == b || kinds_near (length kinds) c.args.limit (slice_index kinds) a b) c.go_round.new.near (λ a b ha hb. sym (kinds_walked kinds c.args.limit a b))
    (subst (λ (n : ℕ). IsTable n found c.go_round.new.near) c.in_ok-window.ensures.len c.go_round.ensures)
