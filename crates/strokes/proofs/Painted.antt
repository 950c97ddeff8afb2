-- Papers on which spans are painted one after another, and with which colours acts paint.
use Rattle.std.proofs.Common.{◌≡◌, ℕ, ◌+◌, ◌*◌, ◌<◌, ◌≤◌, Bool, true, false, cond, ◌&&◌, List, [], ◌∷◌, length, get_or, ap, sym, subst, refl, ◌∙◌, ⊎_elim}
use Rattle.std.specs.Prelude.{◌==◌, nat_lt, All, Option, Some, None, IfSome, unwrap_or}
use Rattle.std.specs.Option.{option_or}
use Rattle.std.proofs.lemmas.Bool.{cases_lt}
use Rattle.std.proofs.lemmas.List.{get_or_past}
use Rattle.mill_base.specs.declared.size.Size.{Size}
use Rattle.point_paper.proofs.lemmas.Cells.{cell_of-paper_by, IsPaper-paper_by, paper_is, papers_alike}
use Rattle.point_paper.specs.Papers.{PaperCells, IsPaper, cell_of, covers, after_span, paper_by}
use Rattle.point_paper.specs.declared.paper.Span.{Span}
use Rattle.strokes.specs.Cells.{MotifCells, HasColours, motif_cell}
use Rattle.strokes.specs.Paints.{after, paints, stamped, size_of, steps_round, half_on, is_between, is_on_line}
use Rattle.strokes.specs.Places.{HasColour}
use Rattle.strokes.specs.Spans.{AreSpansOf, after_spans, cover}
use Rattle.strokes.specs.declared.act.Act.{Act}
use Rattle.strokes.specs.declared.act.Act.TheVariants.{Dot, Rect, Line, Stamp, HalfDrop, Commit}

over : (o : Option ℕ) (b : Bool) (colour cell : ℕ) → unwrap_or o (cond b colour cell) ≡ unwrap_or (option_or o (cond b (Some colour) None)) cell
over None true colour cell = refl
over None false colour cell = refl
over (Some x) b colour cell = refl

pub spans_painted : (paper : PaperCells) (spans : List Span) → IsPaper paper
    → after_spans paper spans ≡ paper_by paper.columns paper.picks (λ c p. unwrap_or (cover spans c p) (cell_of paper c p))
spans_painted paper [] whole = paper_is paper (λ c p. cell_of paper c p) whole (λ c p _ _. refl)
spans_painted paper (span ∷ later) whole =
    let painted = paper_by paper.columns paper.picks (after_span paper span) in
    spans_painted painted later (IsPaper-paper_by paper.columns paper.picks (after_span paper span))
    ∙ papers_alike paper.columns paper.picks (λ c p. unwrap_or (cover later c p) (cell_of painted c p)) (λ c p. unwrap_or (cover (span ∷ later) c p) (cell_of paper c p))
    (λ c p column pick. ap (unwrap_or (cover later c p)) (cell_of-paper_by paper.columns paper.picks (after_span paper span) c p column pick)
    ∙ over (cover later c p) (covers span c p) span.colour (cell_of paper c p))

pub act_painted : (motif : MotifCells) (paper : PaperCells) (act : Act) (spans : List Span) → IsPaper paper → AreSpansOf motif (size_of paper) act spans
    → after_spans paper spans ≡ after motif paper act
act_painted motif paper act spans whole are =
    spans_painted paper spans whole
    ∙ papers_alike paper.columns paper.picks (λ c p. unwrap_or (cover spans c p) (cell_of paper c p)) (λ c p. unwrap_or (paints motif (size_of paper) act c p) (cell_of paper c p))
    (λ c p column pick. ap (λ o. unwrap_or o (cell_of paper c p)) (are.cells c p column pick))

pub commit_leaves : (motif : MotifCells) (paper : PaperCells) → IsPaper paper → after motif paper Commit ≡ paper
commit_leaves motif paper whole = sym (paper_is paper (λ c p. cell_of paper c p) whole (λ c p _ _. refl))

-- ---- colours

one_colour : (colours colour : ℕ) (b : Bool) → colour < colours → IfSome (cond b (Some colour) None) (λ k. k < colours)
one_colour colours colour true below = below
one_colour colours colour false below = tt

either : (colours : ℕ) (x y : Option ℕ) → IfSome x (λ k. k < colours) → IfSome y (λ k. k < colours) → IfSome (option_or x y) (λ k. k < colours)
either colours None y one other = other
either colours (Some x) y one other = one

cell_colour : (colours : ℕ) (cells : List (Option ℕ)) (k : ℕ) (b : Bool) → All (λ cell. IfSome cell (λ colour. colour < colours)) cells
    → IfSome (cond b (get_or cells k None) None) (λ colour. colour < colours)
cell_colour colours cells k false all = tt
cell_colour colours cells k true all = ⊎_elim
    (λ (there : k < length cells). all k None there)
    (λ (past : length cells ≤ k). subst (λ cell. IfSome cell (λ colour. colour < colours)) (sym (get_or_past cells k None past)) tt)
    (cases_lt k (length cells))

motif_colour : (colours : ℕ) (motif : MotifCells) (column pick : ℕ) → HasColours colours motif → IfSome (motif_cell motif column pick) (λ colour. colour < colours)
unfolding motif_cell
motif_colour colours motif column pick all = cell_colour colours motif.cells (pick * motif.columns + column) (nat_lt column motif.columns && nat_lt pick motif.picks) all

stamp_colour : (colours : ℕ) (motif : MotifCells) (size : Size) (column pick c p : ℕ) → HasColours colours motif → IfSome (stamped motif size column pick c p) (λ colour. colour < colours)
stamp_colour colours motif size column pick c p all = motif_colour colours motif (steps_round size.columns column c) (steps_round size.picks pick p) all

pub painted_colour : (colours : ℕ) (motif : MotifCells) (size : Size) (act : Act) (c p : ℕ) → HasColour colours act → HasColours colours motif
    → IfSome (paints motif size act c p) (λ colour. colour < colours)
painted_colour colours motif size (Dot colour column pick) c p has all = one_colour colours colour ((c == column) && (p == pick)) has
painted_colour colours motif size (Rect colour c0 p0 c1 p1) c p has all = one_colour colours colour (is_between c0 c1 c && is_between p0 p1 p) has
painted_colour colours motif size (Line colour c0 p0 c1 p1) c p has all = one_colour colours colour (is_on_line c0 p0 c1 p1 c p) has
painted_colour colours motif size (Stamp number column pick) c p has all = stamp_colour colours motif size column pick c p all
painted_colour colours motif size (HalfDrop number column pick) c p has all =
    either colours (stamped motif size (half_on size.columns column) (half_on size.picks pick) c p) (stamped motif size column pick c p)
    (stamp_colour colours motif size (half_on size.columns column) (half_on size.picks pick) c p all) (stamp_colour colours motif size column pick c p all)
painted_colour colours motif size Commit c p has all = tt
