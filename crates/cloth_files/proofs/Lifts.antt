-- Cards of papers, and cloths that cards lift.
use Rattle.std.proofs.Common.{◌≡◌, ◌<◌, ℕ, pos, Bool, List, [], length, get_or, map, ap, sym, subst, refl, ◌∙◌, arith}
use Rattle.std.specs.Prelude.{All, Result, Ok, Err, IfOk, not}
use Rattle.std.proofs.lemmas.List.{ext_get_or, length-map, get_or-map}
use Rattle.mill_base.specs.declared.face.Face.{Face}
use Rattle.mill_base.specs.declared.face.Face.TheVariants.{Up, Down}
use Rattle.mill_base.specs.Lines.{line_by}
use Rattle.mill_base.proofs.lemmas.Lines.{length-line_by, get_or-line_by, line_is, line_by_alike}
use Rattle.casting_out.specs.Castings.{CastingValue, IsCasting}
use Rattle.point_paper.specs.Papers.{BitCells, PaperCells}
use Rattle.draft_model.specs.Cards.{card, lift, woven}
use Rattle.draft_model.specs.Cloths.{ClothCells, cloth}
use Rattle.draft_model.specs.Designs.{Fits}
use Rattle.draft_model.specs.Drawdowns.{bound, drawdown}
use Rattle.draft_model.specs.declared.design.Design.{Design}
use Rattle.card_image.specs.Sets.{CardDesign, CardsValue, cards_up, design_by, turned_card, turned_set}
use Rattle.mill_base.specs.Bits.{packed}
use Rattle.card_image.specs.Chains.{IsCardSet}
use Rattle.loom_machine.specs.Machines.{MachineValue}
use Rattle.cloth_files.specs.Cards.{paper_cards, cloth_of_cards}

pub bound_picks : (design : Design) (paper : PaperCells) → length (bound design paper).rows ≡ paper.picks
unfolding bound
bound_picks design paper = length-line_by paper.picks _

-- a function over a line by a formula
pub map-line_by : {A B : Type 0} (d : A) (e : B) (f : A → B) (n : ℕ) (cell : ℕ → A) → map f (line_by n cell) ≡ line_by n (λ k. f (cell k))
map-line_by d e f n cell =
    line_is e (map f (line_by n cell)) n (λ k. f (cell k)) (length-map (line_by n cell) f ∙ length-line_by n cell)
    (λ k h. get_or-map f (line_by n cell) k d e (subst (λ m. k < m) (sym (length-line_by n cell)) h) ∙ ap f (get_or-line_by n cell k d h))

-- the set of a paper's cards
abbrev pub paper_set : Design → Face → PaperCells → CardsValue
paper_set design face paper = record { design = design_by design.casting paper.picks; face = face; holes = paper_cards design face paper }

-- what was cut of the bound paper are the cards of a cloth that lies face up
pub cut_is : (design : Design) (paper : PaperCells) (bits : BitCells) (set : CardsValue) → bits ≡ bound design paper
    → set ≡ record { design = design_by design.casting (length bits.rows); face = Up; holes = cards_up design.casting bits } → set ≡ paper_set design Up paper
cut_is design paper bits set are is =
    is
    ∙ ap (λ (b : BitCells). record { design = design_by design.casting (length b.rows); face = Up; holes = cards_up design.casting b }) are
    ∙ ap (λ (n : ℕ). record { design = design_by design.casting n; face = Up; holes = line_by n (card design.casting (bound design paper) Up) }) (bound_picks design paper)

-- those that are turned are the cards of a cloth that lies face down
pub turned_is : (design : Design) (paper : PaperCells) (set turned : CardsValue)
    → ((bits : BitCells) (pick : ℕ) → turned_card design.casting.hooks design.casting.columns (card design.casting bits Up pick) ≡ card design.casting bits Down pick)
    → set ≡ paper_set design Up paper → turned ≡ turned_set design.casting set → turned ≡ paper_set design Down paper
turned_is design paper set turned each is was =
    was
    ∙ ap (turned_set design.casting) is
    ∙ ap (λ (cards : List (List Bool)). record { design = design_by design.casting paper.picks; face = Down; holes = cards })
    (map-line_by [] [] (turned_card design.casting.hooks design.casting.columns) paper.picks (card design.casting (bound design paper) Up)
    ∙ line_by_alike [] paper.picks (λ k. turned_card design.casting.hooks design.casting.columns (card design.casting (bound design paper) Up k)) (card design.casting (bound design paper) Down)
    (λ k h. each (bound design paper) k))

pub if_turned : {E : Type 0} (design : Design) (paper : PaperCells) (set : CardsValue) (result : Result CardsValue E)
    → ((bits : BitCells) (pick : ℕ) → turned_card design.casting.hooks design.casting.columns (card design.casting bits Up pick) ≡ card design.casting bits Down pick)
    → set ≡ paper_set design Up paper → IfOk result (λ turned. turned ≡ turned_set design.casting set) → IfOk result (λ turned. turned ≡ paper_set design Down paper)
if_turned design paper set (Ok turned) each is was = turned_is design paper set turned each is was
if_turned design paper set (Err refusal) each is was = was

-- the rows that are lifted from the cards of a paper are those of its drawdown
pub lifted_is : (design : Design) (face : Face) (paper : PaperCells)
    → ((tie : List ℕ) (casting : CastingValue) (bits : BitCells) (face : Face) (p : ℕ) → IsCasting casting → All (λ column. column < length casting.columns) tie → p < length bits.rows
    → woven face (lift tie casting (card casting bits face p)) ≡ line_by (length tie) (λ e. cloth tie bits (pos e) (pos p)))
    → Fits design → IsCasting design.casting → cloth_of_cards design face (paper_cards design face paper) ≡ drawdown design paper
lifted_is design face paper row fits is =
    let tie : List ℕ = design.tie.ends in
    let there : All (λ column. column < length design.casting.columns) tie = subst (λ (n : ℕ). All (λ column. column < n) tie) (sym fits.casting) fits.tied in
    ap (λ (rows : List (List Bool)). record { ends = length tie; rows = rows })
    (map-line_by [] [] (λ holes. woven face (lift tie design.casting holes)) paper.picks (card design.casting (bound design paper) face)
    ∙ line_by_alike [] paper.picks (λ p. woven face (lift tie design.casting (card design.casting (bound design paper) face p)))
    (λ p. line_by (length tie) (λ e. cloth tie (bound design paper) (pos e) (pos p)))
    (λ p h. row tie design.casting (bound design paper) face p is there (subst (λ n. p < n) (sym (bound_picks design paper)) h))
    ∙ ap (λ n. line_by n (λ p. line_by (length tie) (λ e. cloth tie (bound design paper) (pos e) (pos p)))) (sym (bound_picks design paper)))

-- a cloth whose rows were lifted from cards
pub lifted_cloth : (design : Design) (face : Face) (cards : List (List Bool)) (cloth : ClothCells) → cloth.ends ≡ length design.tie.ends → length cloth.rows ≡ length cards
    → ((k : ℕ) → k < length cards → get_or cloth.rows k [] ≡ woven face (lift design.tie.ends design.casting (get_or cards k [])))
    → cloth ≡ cloth_of_cards design face cards
lifted_cloth design face cards cloth wide high each =
    let read : List Bool → List Bool = λ holes. woven face (lift design.tie.ends design.casting holes) in
    let same : cloth.rows ≡ map read cards = ext_get_or [] cloth.rows (map read cards) (high ∙ sym (length-map cards read))
    (λ k h. let below : k < length cards = omega (arith, h, high) in each k below ∙ sym (get_or-map read cards k [] [] below)) in
    ap (λ (n : ℕ). record { ends = n; rows = cloth.rows }) wide ∙ ap (λ (rows : List (List Bool)). record { ends = length design.tie.ends; rows = rows }) same

pub length-woven : (face : Face) (row : List Bool) → length (woven face row) ≡ length row
length-woven Up row = refl
length-woven Down row = length-map row not

-- the row that a machine for the design lifts from a card, read on a face
pub lifted_row : (design : Design) (cards : CardsValue) (machine : MachineValue) (face : Face) (pick : ℕ) (bytes : List ℕ) (lifted read : List Bool)
    → cards.design ≡ design_by design.casting design.size.picks → IsCardSet cards → pick < cards.design.picks
    → machine ≡ record { tie = design.tie; casting = design.casting } → bytes ≡ packed (get_or cards.holes pick [])
    → ((holes : List Bool) → length holes ≡ machine.casting.hooks → bytes ≡ packed holes → lifted ≡ lift machine.tie.ends machine.casting holes)
    → read ≡ woven face lifted → read ≡ woven face (lift design.tie.ends design.casting (get_or cards.holes pick []))
lifted_row design cards machine face pick bytes lifted read of whole there for_design are by_machine is =
    let hooks : length (get_or cards.holes pick []) ≡ machine.casting.hooks =
    (whole.each pick there).width ∙ ap (λ (d : CardDesign). d.hooks) of ∙ sym (ap (λ (m : MachineValue). m.casting.hooks) for_design) in
    is ∙ ap (woven face) (by_machine (get_or cards.holes pick []) hooks are ∙ ap (λ (m : MachineValue). lift m.tie.ends m.casting (get_or cards.holes pick [])) for_design)
