-- Rows that are lifted from the cards of a paper.
use Rattle.std.proofs.Common.{◌≡◌, ◌<◌, ℕ, pos, Bool, List, [], length, get_or, map, ap, sym, subst, ◌∙◌}
use Rattle.std.specs.Prelude.{All}
use Rattle.std.proofs.lemmas.List.{length-map, get_or-map}
use Rattle.mill_base.specs.Lines.{line_by}
use Rattle.mill_base.proofs.lemmas.Lines.{length-line_by, get_or-line_by, line_by_alike, line_is}
use Rattle.mill_base.specs.declared.face.Face.{Face}
use Rattle.mill_base.specs.declared.face.Face.TheVariants.{Up, Down}
use Rattle.casting_out.specs.Castings.{CastingValue, IsCasting}
use Rattle.point_paper.specs.Papers.{BitCells, PaperCells}
use Rattle.draft_model.specs.Cards.{card, lift, woven}
use Rattle.draft_model.specs.Cloths.{ClothCells, cloth}
use Rattle.draft_model.specs.Designs.{Fits}
use Rattle.draft_model.specs.Drawdowns.{bound, drawdown}
use Rattle.draft_model.specs.declared.design.Design.{Design}
use Rattle.card_image.specs.Sets.{cards_of, cards_up, other_face, turned_card}
use Rattle.loom_threads.specs.Cuts.{machine_of}
use Rattle.loom_threads.specs.Woven.{lifted, lifted_rows}
use Rattle.loom_threads.specs.Lifts.{cloth_from, faced, row_from}

-- the law of turned cards and the law of lifting, as they are handed in
abbrev pub Turns : Type 0
Turns = (casting : CastingValue) (bits : BitCells) (face : Face) (pick : ℕ) → IsCasting casting
    → turned_card casting.hooks casting.columns (card casting bits face pick) ≡ card casting bits (other_face face) pick

abbrev pub Lifts : Type 0
Lifts = (tie : List ℕ) (casting : CastingValue) (bits : BitCells) (face : Face) (p : ℕ) → IsCasting casting
    → All (λ column. column < length casting.columns) tie → p < length bits.rows
    → woven face (lift tie casting (card casting bits face p)) ≡ line_by (length tie) (λ e. cloth tie bits (pos e) (pos p))

picks : (design : Design) (paper : PaperCells) → length (bound design paper).rows ≡ paper.picks
unfolding bound
picks design paper = length-line_by paper.picks _

faced_card : Turns → (casting : CastingValue) (bits : BitCells) (face : Face) (pick : ℕ) → IsCasting casting → pick < length bits.rows
    → faced casting face (get_or (cards_up casting bits) pick []) ≡ card casting bits face pick
faced_card turns casting bits Up pick is low = get_or-line_by (length bits.rows) (card casting bits Up) pick [] low
faced_card turns casting bits Down pick is low =
    ap (turned_card casting.hooks casting.columns) (get_or-line_by (length bits.rows) (card casting bits Up) pick [] low) ∙ turns casting bits Up pick is

-- what is lifted from the cards that are cut of a paper
pub from_cut : Turns → (design : Design) (face : Face) (paper : PaperCells) → IsCasting design.casting → cloth_from (machine_of design) face (cards_of design paper) ≡ lifted design face paper
from_cut turns design face paper is =
    let bits : BitCells = bound design paper in
    ap (λ (rows : List (List Bool)). record { ends = length design.tie.ends; rows = rows })
    (line_by_alike [] (length bits.rows) (row_from (machine_of design) face (cards_up design.casting bits)) (λ pick. lift design.tie.ends design.casting (card design.casting bits face pick))
    (λ k h. ap (lift design.tie.ends design.casting) (faced_card turns design.casting bits face k is h))
    ∙ ap (λ n. line_by n (λ pick. lift design.tie.ends design.casting (card design.casting bits face pick))) (picks design paper))

-- each row, read on its face, is the drawdown's
pub woven_lines : Lifts → (design : Design) (face : Face) (paper : PaperCells) → IsCasting design.casting → Fits design
    → line_by paper.picks (λ pick. woven face (lift design.tie.ends design.casting (card design.casting (bound design paper) face pick))) ≡ (drawdown design paper).rows
woven_lines lifts design face paper is fits =
    let bits : BitCells = bound design paper in
    let there : All (λ column. column < length design.casting.columns) design.tie.ends = subst (λ (n : ℕ). All (λ column. column < n) design.tie.ends) (sym fits.casting) fits.tied in
    line_by_alike [] paper.picks (λ pick. woven face (lift design.tie.ends design.casting (card design.casting bits face pick)))
    (λ pick. line_by (length design.tie.ends) (λ e. cloth design.tie.ends bits (pos e) (pos pick)))
    (λ k h. lifts design.tie.ends design.casting bits face k is there (subst (λ (n : ℕ). k < n) (sym (picks design paper)) h))
    ∙ ap (λ n. line_by n (λ pick. line_by (length design.tie.ends) (λ e. cloth design.tie.ends bits (pos e) (pos pick)))) (sym (picks design paper))

map-line_by : {A B : Type 0} (a : A) (b : B) (f : A → B) (n : ℕ) (cell : ℕ → A) → map f (line_by n cell) ≡ line_by n (λ k. f (cell k))
map-line_by a b f n cell = line_is b (map f (line_by n cell)) n (λ k. f (cell k)) (length-map (line_by n cell) f ∙ length-line_by n cell)
    (λ k h. get_or-map f (line_by n cell) k a b (subst (λ m. k < m) (sym (length-line_by n cell)) h) ∙ ap f (get_or-line_by n cell k a h))

pub woven_rows : Lifts → (design : Design) (face : Face) (paper : PaperCells) → IsCasting design.casting → Fits design
    → map (woven face) (lifted_rows design face paper) ≡ (drawdown design paper).rows
woven_rows lifts design face paper is fits =
    map-line_by [] [] (woven face) paper.picks (λ pick. lift design.tie.ends design.casting (card design.casting (bound design paper) face pick))
    ∙ woven_lines lifts design face paper is fits

-- a cloth by its parts
pub cloth_is : (cloth : ClothCells) (ends : ℕ) (rows : List (List Bool)) → cloth.ends ≡ ends → cloth.rows ≡ rows → cloth ≡ record { ends = ends; rows = rows }
cloth_is cloth ends rows wide high =
    ap (λ (n : ℕ). record { ends = n; rows = cloth.rows }) wide ∙ ap (λ (r : List (List Bool)). record { ends = ends; rows = r }) high
