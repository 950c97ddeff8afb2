-- Images that can be written.
use Rattle.std.proofs.Common.{◌≡◌, ◌+◌, ◌-◌, ◌*◌, ◌<◌, ◌≤◌, ℕ, suc, Bool, List, [], ◌++◌, length, get_or, map, take, ap, sym, subst, ◌∙◌, arith, length-append}
use Rattle.std.specs.Prelude.{reverse}
use Rattle.std.specs.List.{concat}
use Rattle.std.proofs.Math.Nat.{mul-le-mul_right}
use Rattle.std.proofs.lemmas.List.{length-map, length-replicate, get_or-map}
use Rattle.mill_base.specs.Limits.{IsWithin}
use Rattle.mill_base.specs.declared.limits.TheConstants.{MAX_COLUMNS, MAX_PICKS, MAX_COLOURS, MAX_ENDS, MAX_CLOTH_CELLS}
use Rattle.mill_base.specs.Lines.{line_by}
use Rattle.mill_base.proofs.lemmas.Lines.{length-line_by, get_or-line_by}
use Rattle.point_paper.specs.Papers.{PaperCells, pick_of, cell_of}
use Rattle.draft_model.specs.Cloths.{ClothCells, IsCloth}
use Rattle.draft_model.specs.Designs.{Fits, IsPaperOf}
use Rattle.draft_model.specs.Drawdowns.{bound, drawdown}
use Rattle.draft_model.specs.declared.design.Design.{Design}
use Rattle.tiff_palette.specs.Written.{IsWritable}
use Rattle.tiff_palette.specs.declared.image.PaletteImage.{PaletteImage}
use Rattle.cloth_files.specs.Images.{pixel, pixels_of, cloth_shade, cloth_map, cloth_image, paper_image}
use Rattle.cloth_files.proofs.Rows.{rows_more, length-pixels_of}
use Rattle.cloth_files.proofs.Lifts.{bound_picks}

length-shade : length cloth_shade ≡ MAX_COLOURS
unfolding cloth_shade
length-shade = let black : ℕ = 0 in ap suc (length-replicate (MAX_COLOURS - 1) black)

length-cloth_map : length cloth_map ≡ 3 * MAX_COLOURS
length-cloth_map =
    let two : length (cloth_shade ++ cloth_shade) ≡ length cloth_shade + length cloth_shade = length-append cloth_shade cloth_shade in
    let three : length cloth_map ≡ length (cloth_shade ++ cloth_shade) + length cloth_shade = length-append (cloth_shade ++ cloth_shade) cloth_shade in
    omega (arith, two, three, length-shade)

pub cloth_writable : (cloth : ClothCells) (image : PaletteImage) → image ≡ cloth_image cloth → IsCloth cloth → IsWithin 1 cloth.ends MAX_ENDS → IsWithin 1 (length cloth.rows) MAX_PICKS
    → cloth.ends * length cloth.rows ≤ MAX_CLOTH_CELLS → IsWritable image
cloth_writable cloth image is whole wide high few =
    let drawn : length (pixels_of (map (map pixel) cloth.rows)) ≡ cloth.ends * length cloth.rows =
    length-pixels_of (map (map pixel) cloth.rows) (length cloth.rows) cloth.ends (length-map cloth.rows (map pixel))
    (λ k h. ap length (get_or-map (map pixel) cloth.rows k [] [] h) ∙ length-map (get_or cloth.rows k []) pixel ∙ whole k h) in
    subst (λ (i : PaletteImage). IsWritable i) (sym is) (record { width = wide; height = high; cells = few; drawn = drawn; mapped = length-cloth_map })

pub paper_writable : (colour_map : List ℕ) (paper : PaperCells) (image : PaletteImage) → image ≡ paper_image colour_map paper → IsWithin 1 paper.columns MAX_COLUMNS
    → IsWithin 1 paper.picks MAX_PICKS → length colour_map ≡ 3 * MAX_COLOURS → IsWritable image
paper_writable colour_map paper image is wide high mapped =
    let rows : List (List ℕ) = line_by paper.picks (pick_of paper) in
    let drawn : length (pixels_of rows) ≡ paper.columns * paper.picks =
    length-pixels_of rows paper.picks paper.columns (length-line_by paper.picks (pick_of paper))
    (λ k h. ap length (get_or-line_by paper.picks (pick_of paper) k [] h) ∙ length-line_by paper.columns (λ column. cell_of paper column k)) in
    let cells : paper.columns * paper.picks ≤ MAX_CLOTH_CELLS = omega (arith, mul-le-mul_right paper.picks wide.1, high.1) in
    let ends : IsWithin 1 paper.columns MAX_ENDS = (wide.0, omega (arith, wide.1)) in
    subst (λ (i : PaletteImage). IsWritable i) (sym is) (record { width = ends; height = high; cells = cells; drawn = drawn; mapped = mapped })

-- one more row of a cloth
pub cloth_more : (rows : List (List Bool)) (k : ℕ) (row : List Bool) (before now : List ℕ) → k < length rows → row ≡ get_or rows (length rows - 1 - k) []
    → before ≡ concat (take k (reverse (map (map pixel) rows))) → now ≡ before ++ map pixel row → now ≡ concat (take (k + 1) (reverse (map (map pixel) rows)))
cloth_more rows k row before now there is so_far more =
    let drawn : List (List ℕ) = map (map pixel) rows in
    let high : length drawn ≡ length rows = length-map rows (map pixel) in
    more
    ∙ ap (λ xs. xs ++ map pixel row) so_far
    ∙ ap (λ xs. concat (take k (reverse drawn)) ++ xs)
    (ap (map pixel) is ∙ sym (get_or-map (map pixel) rows (length rows - 1 - k) [] [] (omega (arith, there))) ∙ ap (λ n. get_or drawn (n - 1 - k) []) (sym high))
    ∙ sym (rows_more drawn k (omega (arith, high, there)))

-- one more pick of a paper
pub paper_more : (paper : PaperCells) (k : ℕ) (before now : List ℕ) → k < paper.picks → before ≡ concat (take k (reverse (line_by paper.picks (pick_of paper))))
    → now ≡ before ++ pick_of paper (paper.picks - 1 - k) → now ≡ concat (take (k + 1) (reverse (line_by paper.picks (pick_of paper))))
paper_more paper k before now there so_far more =
    let rows : List (List ℕ) = line_by paper.picks (pick_of paper) in
    let high : length rows ≡ paper.picks = length-line_by paper.picks (pick_of paper) in
    more
    ∙ ap (λ xs. xs ++ pick_of paper (paper.picks - 1 - k)) so_far
    ∙ ap (λ xs. concat (take k (reverse rows)) ++ xs)
    (sym (get_or-line_by paper.picks (pick_of paper) (paper.picks - 1 - k) [] (omega (arith, there))) ∙ ap (λ n. get_or rows (n - 1 - k) []) (sym high))
    ∙ sym (rows_more rows k (omega (arith, high, there)))

drawdown_picks : (design : Design) (paper : PaperCells) (cloth : ClothCells) → cloth ≡ drawdown design paper → IsPaperOf design paper → length cloth.rows ≡ design.size.picks
drawdown_picks design paper cloth is of =
    ap (λ (c : ClothCells). length c.rows) is ∙ length-line_by (length (bound design paper).rows) _ ∙ bound_picks design paper ∙ of.picks

pub drawn_picks : (design : Design) (paper : PaperCells) (cloth : ClothCells) → cloth ≡ drawdown design paper → IsPaperOf design paper → Fits design → IsWithin 1 (length cloth.rows) MAX_PICKS
drawn_picks design paper cloth is of fits = subst (λ n. IsWithin 1 n MAX_PICKS) (sym (drawdown_picks design paper cloth is of)) fits.picks

pub drawn_cells : (design : Design) (paper : PaperCells) (cloth : ClothCells) → cloth ≡ drawdown design paper → IsPaperOf design paper → Fits design
    → cloth.ends * length cloth.rows ≤ MAX_CLOTH_CELLS
drawn_cells design paper cloth is of fits =
    let wide : cloth.ends ≡ length design.tie.ends = ap (λ (c : ClothCells). c.ends) is in
    subst (λ n. n * length cloth.rows ≤ MAX_CLOTH_CELLS) (sym wide) (subst (λ n. length design.tie.ends * n ≤ MAX_CLOTH_CELLS) (sym (drawdown_picks design paper cloth is of)) fits.cells)
