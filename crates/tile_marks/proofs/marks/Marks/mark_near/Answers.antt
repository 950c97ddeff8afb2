use Rattle.std.proofs.Common.{◌≡◌, ◌<◌, ◌*◌, ◌/◌, ◌%◌, ℕ, length, refl, sym, ap, subst, ◌∙◌, arith}
use Rattle.tile_grid.specs.Tiles.{tiles, across}
use Rattle.tile_grid.proofs.lemmas.Tiles.{across_some, tiles_few}
use Rattle.tile_marks.specs.Marks.{with_near}
use Rattle.tile_marks.proofs.Marked.{near_joined, row_joined}
use Rattle.tile_marks.proofs.marks.Marks.mark_near.Goals as goal

pub mark_column-requires-clause-few : goal.mark_column-requires-clause-few
mark_column-requires-clause-few c =
    subst (λ (n : ℕ). n < 4294967296)
    (sym (ap (λ n. n * length c.near_rows.result.now) c.across-across.ensures.count ∙ ap (λ n. across c.args.grid.now * n) c.near_rows.ensures.len))
    (let few = tiles_few c.args.grid.now c.across-across.ensures.grid in omega arith)

pub returns-clause-len : goal.returns-clause-len
returns-clause-len c = c.mark_column.ensures.len ∙ c.or_range.ensures.len ∙ ap length c.self.view_is

pub returns-clause-set : goal.returns-clause-set
returns-clause-set c =
    let grid = c.args.grid.now in
    let w = c.across-across.result in
    let t = c.args.tile in
    let old = c.self.inside.set in
    let long : length old ≡ tiles grid = ap length c.self.view_is ∙ c.requires.grid in
    let some : 0 < w = let a = across_some grid c.across-across.ensures.grid in let b = c.across-across.ensures.count in omega arith in
    near_joined grid t w (t % w) (t / w) old c.or_range.new.self c.mark_column.new.set c.near_columns.result.now c.near_rows.result.now c.across-across.ensures.grid long
    (let a = c.requires.tile in let b = c.requires.grid in omega arith) c.across-across.ensures.count refl refl c.near_columns.ensures.row c.near_rows.ensures.row
    (row_joined old c.or_range.new.self c.near_columns.result.now w (t / w) some (c.near_columns.ensures.len ∙ sym c.across-across.ensures.count) c.or_range.ensures)
    (c.mark_column.ensures.len ∙ c.or_range.ensures.len) (λ u h. c.mark_column.ensures.tiles u (let same = c.or_range.ensures.len in omega arith))
    ∙ ap (with_near grid t) c.self.view_is
