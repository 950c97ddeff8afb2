-- Rows of one width as a grid.
use Rattle.std.proofs.Common.{◌≡◌, ◌+◌, ◌/◌, ◌<◌, ℕ, Bool, false, List, [], length, get_or, ap, ◌∙◌, arith}
use Rattle.mill_base.specs.Lines.{line_by}
use Rattle.mill_base.specs.Grids.{GridCells, IsGrid, row_cell, grid_cell, transposed}
use Rattle.mill_base.specs.inner.GridBlocks.{AreBandsTurned}
use Rattle.mill_base.proofs.lemmas.Lines.{line_is}

-- two grids are one by their parts
pub grid_is : (one other : GridCells) → one.width ≡ other.width → one.rows ≡ other.rows → one ≡ other
grid_is one other wide high =
    ap (λ (n : ℕ). record { width = n; rows = one.rows }) wide ∙ ap (λ (xs : List (List Bool)). record { width = other.width; rows = xs }) high

-- rows whose cells are those of a grid's columns are the transposed grid's
pub transposed_rows : (grid : GridCells) (out : List (List Bool)) → length out ≡ grid.width → ((k : ℕ) → k < length out → length (get_or out k []) ≡ length grid.rows)
    → ((k c : ℕ) → k < grid.width → c < length grid.rows → row_cell out c k ≡ row_cell grid.rows k c) → out ≡ (transposed grid).rows
transposed_rows grid out high wide cells = line_is [] out grid.width (λ column. line_by (length grid.rows) (grid_cell grid column)) high
    (λ k h. line_is false (get_or out k []) (length grid.rows) (grid_cell grid k) (wide k (omega arith)) (λ c low. cells k c h low))

-- a grid whose rows were turned by blocks is the transposed one
pub turned_is : (grid out : GridCells) (width height : ℕ) (rows given old new : List (List Bool)) → record { width = width; rows = old } ≡ out → IsGrid (record { width = width; rows = old })
    → out.width ≡ length grid.rows → length out.rows ≡ grid.width → rows ≡ grid.rows → height ≡ length grid.rows → given ≡ old → AreBandsTurned rows ((height + 63) / 64) given new
    → record { width = width; rows = new } ≡ transposed grid
turned_is grid out width height rows given old new is whole wide high rows_are height_is same turned =
    let long : length old ≡ grid.width = ap (λ (g : GridCells). length g.rows) is ∙ high in
    let broad : width ≡ length grid.rows = ap (λ (g : GridCells). g.width) is ∙ wide in
    let start : length given ≡ length old = ap length same in
    let size : length new ≡ length given = turned.sizes.height in
    let widths : (k : ℕ) → k < length given → length (get_or given k []) ≡ length grid.rows = λ k h.
    ap (λ (xs : List (List Bool)). length (get_or xs k [])) same ∙ whole k (omega arith) ∙ broad in
    let lines = transposed_rows grid new (size ∙ start ∙ long) (λ k h. turned.sizes.widths k ∙ widths k (omega arith))
    (λ k c h low.
    let there : k < length given = omega arith in
    let within = widths k there in
    turned.here k c (omega arith) there (omega arith) ∙ ap (λ (xs : List (List Bool)). row_cell xs k c) rows_are) in
    grid_is (record { width = width; rows = new }) (transposed grid) broad lines
