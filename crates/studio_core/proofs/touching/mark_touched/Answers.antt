use Rattle.std.proofs.Common.{◌≡◌, ◌<◌, ◌||◌, ℕ, false, length, get_or, ap, ◌∙◌}
use Rattle.tile_grid.specs.Tiles.{tiles}
use Rattle.studio_core.specs.Touches.{near_any}
use Rattle.studio_core.specs.inner.Touched.{spans_touch}
use Rattle.studio_core.proofs.Touched.{from_none, near_alike}
use Rattle.studio_core.proofs.touching.mark_touched.Goals as goal

-- the set of touched tiles
touched_is : (c : goal.After-mark_near-3) (t : ℕ) → t < tiles c.args.grid.now → get_or c.mark_spans.new.set t false ≡ spans_touch c.args.grid.now c.args.spans.now t
touched_is c t low =
    from_none c.clear_all.new.self c.mark_spans.new.set (length c.args.touched.now) (tiles c.args.grid.now) t (spans_touch c.args.grid.now c.args.spans.now) c.clear_all.ensures c.requires.touched low
    (c.mark_spans.ensures.tiles t low)

-- the set of the tiles near them
near_is : (c : goal.After-mark_near-3) (t : ℕ) → t < tiles c.args.grid.now → get_or c.mark_near.new.set t false ≡ near_any c.args.grid.now (spans_touch c.args.grid.now c.args.spans.now) t
near_is c t low =
    let grid = c.args.grid.now in
    from_none c.clear_all-2.new.self c.mark_near.new.set (length c.args.near.now) (tiles grid) t (near_any grid (λ u. get_or c.mark_spans.new.set u false)) c.clear_all-2.ensures c.requires.near low
    (c.mark_near.ensures.tiles t low)
    ∙ near_alike grid (λ u. get_or c.mark_spans.new.set u false) (spans_touch grid c.args.spans.now) t (touched_is c)

pub returns-clause-bind : goal.returns-clause-bind
returns-clause-bind c = λ u h.
    let grid = c.args.grid.now in
    c.mark_near-2.ensures.tiles u h
    ∙ ap (λ b. get_or c.args.bind.now u false || b) (near_alike grid (λ t. get_or c.mark_spans.new.set t false) (spans_touch grid c.args.spans.now) u (touched_is c))

pub returns-clause-check : goal.returns-clause-check
returns-clause-check c = λ u h.
    let grid = c.args.grid.now in
    c.mark_near-3.ensures.tiles u h
    ∙ ap (λ b. get_or c.args.check.now u false || b) (near_alike grid (λ t. get_or c.mark_near.new.set t false) (near_any grid (spans_touch grid c.args.spans.now)) u (near_is c))
