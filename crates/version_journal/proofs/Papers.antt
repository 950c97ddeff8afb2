-- Acts of a design leave papers of the design, and its versions keep no float.
use Rattle.std.proofs.Common.{◌≡◌, ◌*◌, ◌==◌, ◌&&◌, nat_lt, ℕ, zero, suc, ◌+◌, ◌<◌, ◌≤◌, Bool, true, false, List, [], ◌∷◌, ◌++◌, Option, Some, None, length, get_or, refl, sym, ap, subst, ◌∙◌, ⊎_elim, arith}
use Rattle.std.specs.Prelude.{All, Contains, IfSome, slice_get, is_some, unwrap_or, if◌then◌else◌}
use Rattle.std.specs.Option.{option_or}
use Rattle.std.proofs.lemmas.Bool.{cases_lt}
use Rattle.std.proofs.lemmas.List.{get_or_past}
use Rattle.std.proofs.lemmas.List.Elements.{All-push, All-contains}
use Rattle.std.proofs.lemmas.Option.{get_or_from_slice_get, slice_get_within, slice_get-get_or}
use Rattle.mill_base.specs.declared.size.Size.{Size}
use Rattle.mill_base.specs.Lines.{line_by}
use Rattle.mill_base.proofs.lemmas.Lines.{length-line_by}
use Rattle.point_paper.specs.Papers.{PaperCells, BitCells, cell_of}
use Rattle.point_paper.proofs.lemmas.Cells.{cell_of-paper_by}
use Rattle.strokes.specs.Cells.{MotifCells, motif_cell, no_motif}
use Rattle.strokes.specs.Paints.{after, half_on, is_between, is_on_line, paints, size_of, stamped, steps_round}
use Rattle.strokes.specs.Places.{HasColour, cells_of_motif, motif_of_act}
use Rattle.strokes.specs.Spans.{AreSpansOf, IsColourOf}
use Rattle.strokes.specs.declared.motifs.NamedMotif.{NamedMotif}
use Rattle.point_paper.specs.declared.paper.Span.{Span}
use Rattle.strokes.specs.declared.act.Act.{Act}
use Rattle.strokes.specs.declared.act.Act.TheVariants.{Dot, Rect, Line, Stamp, HalfDrop, Commit}
use Rattle.draft_model.specs.Designs.{Fits, IsPaperOf}
use Rattle.draft_model.specs.Cloths.{raw}
use Rattle.draft_model.specs.Drawdowns.{bound, cell_bound}
use Rattle.draft_model.specs.Floats.{first_float, keeps}
use Rattle.draft_model.specs.declared.design.Design.{Design}
use Rattle.draft_model.specs.declared.float_run.FloatRun.{FloatRun}
use Rattle.version_journal.specs.Journals.{ActWithMotif, HasColours, with_motif, History, IsActOf, begun, committed, float_kept, history, versions, versions_after}
use Rattle.version_journal.proofs.Histories.{kept, kept_by_all, kept_by_step}

-- the colour, if there is one, is one of so many
abbrev IsBelow : ℕ → Option ℕ → Type 0
IsBelow n colour = IfSome colour (λ x. x < n)

below_if : (n colour : ℕ) (b : Bool) → colour < n → IsBelow n (if b then Some colour else None)
below_if n colour true h = h
below_if n colour false h = tt

below_or : (n : ℕ) (one other : Option ℕ) → IsBelow n one → IsBelow n other → IsBelow n (option_or one other)
below_or n (Some x) other h k = h
below_or n None other h k = k

below_in : (n : ℕ) (cells : List (Option ℕ)) (k : ℕ) → All (λ cell. IfSome cell (λ colour. colour < n)) cells → IsBelow n (get_or cells k None)
below_in n cells k each = ⊎_elim (λ (h : k < length cells). each k None h)
    (λ (h : length cells ≤ k). subst (λ (cell : Option ℕ). IfSome cell (λ colour. colour < n)) (sym (get_or_past cells k None h)) tt) (cases_lt k (length cells))

below_motif : (n : ℕ) (motif : MotifCells) (column pick : ℕ) → HasColours n motif → IsBelow n (motif_cell motif column pick)
unfolding motif_cell
below_motif n motif column pick each = either (nat_lt column motif.columns && nat_lt pick motif.picks) where
  either : (b : Bool) → IsBelow n (if b then get_or motif.cells (pick * motif.columns + column) None else None)
  either true = below_in n motif.cells (pick * motif.columns + column) each
  either false = tt

-- what an act paints is in the book where its colours are
painted_below : (n : ℕ) (motif : MotifCells) (size : Size) (act : Act) (c p : ℕ) → HasColour n act → HasColours n motif
    → IsBelow n (paints motif size act c p)
painted_below n motif size (Dot colour column pick) c p h each = below_if n colour (c == column && p == pick) h
painted_below n motif size (Rect colour c0 p0 c1 p1) c p h each = below_if n colour (is_between c0 c1 c && is_between p0 p1 p) h
painted_below n motif size (Line colour c0 p0 c1 p1) c p h each = below_if n colour (is_on_line c0 p0 c1 p1 c p) h
painted_below n motif size (Stamp number column pick) c p h each = below_motif n motif (steps_round size.columns column c) (steps_round size.picks pick p) each
painted_below n motif size (HalfDrop number column pick) c p h each =
    below_or n (stamped motif size (half_on size.columns column) (half_on size.picks pick) c p) (stamped motif size column pick c p)
    (below_motif n motif (steps_round size.columns (half_on size.columns column) c) (steps_round size.picks (half_on size.picks pick) p) each)
    (below_motif n motif (steps_round size.columns column c) (steps_round size.picks pick p) each)
painted_below n motif size Commit c p h each = nothing where
  nothing : IsBelow n None
  nothing = tt

below_unwrapped : (n : ℕ) (colour : Option ℕ) (old : ℕ) → IsBelow n colour → old < n → unwrap_or colour old < n
below_unwrapped n (Some x) old h k = h
below_unwrapped n None old h k = k

pub after_fits : (design : Design) (act : ActWithMotif) (paper : PaperCells) → IsActOf design act → IsPaperOf design paper → IsPaperOf design (after act.motif paper act.act)
after_fits design act paper of fits = record {
  columns = fits.columns;
  picks = fits.picks;
  colours = λ column pick c p. subst (λ x. x < length design.book)
      (sym (cell_of-paper_by paper.columns paper.picks (λ x y. unwrap_or (paints act.motif (size_of paper) act.act x y) (cell_of paper x y)) column pick c p))
      (below_unwrapped (length design.book) (paints act.motif (size_of paper) act.act column pick) (cell_of paper column pick)
      (painted_below (length design.book) act.motif (size_of paper) act.act column pick of.colour of.motif) (fits.colours column pick c p));
}

-- the paper and all versions are papers of the design
pub record AreOf (design : Design) (h : History) : Type 0 where
  pub now : IsPaperOf design h.paper
  pub made : All (IsPaperOf design) h.versions

pub papers_fit : (design : Design) (opening : PaperCells) (acts : List ActWithMotif) → IsPaperOf design opening → All (IsActOf design) acts → AreOf design (history design opening acts)
papers_fit design opening acts fits each =
    kept_by_all (AreOf design) (IsActOf design) design
    (λ h act of are. kept_by_step (AreOf design) design h act (record { now = after_fits design act h.paper of are.now; made = are.made })
    (record { now = are.now; made = made h are (float_kept design h.paper) }))
    (begun opening) acts each (record { now = fits; made = All-push (IsPaperOf design) [] opening (λ k d below. absurd (omega arith)) fits }) where
      made : (h : History) → AreOf design h → (float : Option FloatRun) → All (IsPaperOf design) (versions_after h.versions h.paper float)
      made h are None = All-push (IsPaperOf design) h.versions h.paper are.made are.now
      made h are (Some float) = are.made

-- version 0 is the opening, and the later ones, of as many picks, keep no float
pub record Keeps (design : Design) (opening : PaperCells) (h : History) : Type 0 where
  pub later : List PaperCells
  pub are : h.versions ≡ opening ∷ later
  pub picks : h.paper.picks ≡ opening.picks
  pub sound : All (λ v. (float_kept design v ≡ None) × (v.picks ≡ opening.picks)) later

pub sound : (design : Design) (opening : PaperCells) (acts : List ActWithMotif) → Keeps design opening (history design opening acts)
sound design opening acts =
    kept (Keeps design opening) design (λ h act k. record { later = k.later; are = k.are; picks = k.picks; sound = k.sound }) (λ h k. either h k (float_kept design h.paper) refl)
    (begun opening) acts (record { later = []; are = refl; picks = refl; sound = λ k d below. absurd (omega arith) }) where
      either : (h : History) → Keeps design opening h → (float : Option FloatRun) → float_kept design h.paper ≡ float → Keeps design opening (committed design h)
      either h k None is = record {
        later = k.later ++ h.paper ∷ [];
        are = ap (versions_after h.versions h.paper) is ∙ ap (λ l. l ++ h.paper ∷ []) k.are;
        picks = k.picks;
        sound = All-push (λ v. (float_kept design v ≡ None) × (v.picks ≡ opening.picks)) k.later h.paper k.sound (is, k.picks);
      }
      either h k (Some float) is = record { later = k.later; are = ap (versions_after h.versions h.paper) is ∙ k.are; picks = k.picks; sound = k.sound }

pub later_free : (design : Design) (opening : PaperCells) (h : History) → Keeps design opening h → (k : ℕ) (version : PaperCells) → 0 < k → slice_get h.versions k ≡ Some version
    → (float_kept design version ≡ None) × (version.picks ≡ opening.picks)
later_free design opening h keeps zero version some is = absurd (omega arith)
later_free design opening h keeps (suc j) version some is =
    let there : slice_get (opening ∷ keeps.later) (suc j) ≡ Some version = subst (λ l. slice_get l (suc j) ≡ Some version) keeps.are is in
    let low : suc j < length (opening ∷ keeps.later) = slice_get_within (opening ∷ keeps.later) (suc j) version there in
    subst (λ v. (float_kept design v ≡ None) × (v.picks ≡ opening.picks)) (get_or_from_slice_get (opening ∷ keeps.later) (suc j) version version there)
    (keeps.sound j version (omega arith))

-- that first floats are told exactly where a cloth keeps one
abbrev pub AreTold : Type 0
AreTold = (design : Design) (bits : BitCells) → 0 < length design.tie.ends → 0 < length bits.rows → keeps design bits ≡ is_some (first_float design bits)

pub told_where_kept : AreTold → (design : Design) (paper : PaperCells) → Fits design → paper.picks ≡ design.size.picks → keeps design (bound design paper) ≡ is_some (float_kept design paper)
unfolding bound
told_where_kept told design paper fits picks =
    told design (bound design paper) (omega (arith, fits.ends.0))
    (omega (arith, length-line_by paper.picks (λ pick. line_by paper.columns (λ column. cell_bound design (raw design.book paper) column pick)), picks, fits.picks.0))

-- a paper of the opening's size whose first float is none keeps none
pub none_kept : AreTold → (design : Design) (opening version : PaperCells) → Fits design → IsPaperOf design opening → (float_kept design version ≡ None) × (version.picks ≡ opening.picks)
    → keeps design (bound design version) ≡ false
none_kept told design opening version fits of free = told_where_kept told design version fits (free.1 ∙ of.picks) ∙ ap is_some free.0

pub all_free : (P : PaperCells → Type 0) (versions : List PaperCells) (opening : PaperCells) → slice_get versions 0 ≡ Some opening → P opening
    → ((k : ℕ) (version : PaperCells) → 0 < k → slice_get versions k ≡ Some version → P version) → All P versions
all_free P versions opening first here later zero d below = subst P (sym (get_or_from_slice_get versions 0 opening d first)) here
all_free P versions opening first here later (suc k) d below = later (suc k) (get_or versions (suc k) d) (omega arith) (slice_get-get_or versions (suc k) d below)

-- acts of a session whose motifs have colours of the book
pub of_the_design : (design : Design) (motifs : List NamedMotif) (act : Act) → HasColour (length design.book) act
    → All (λ named. HasColours (length design.book) named.motif) motifs → IsActOf design (with_motif motifs act)
of_the_design design motifs act colour each = record { colour = colour; motif = cells act } where
  none : HasColours (length design.book) no_motif
  none = λ k d below. absurd (omega arith)

  found : (motif : Option NamedMotif) → ((named : NamedMotif) → motif ≡ Some named → HasColours (length design.book) named.motif) → HasColours (length design.book) (cells_of_motif motif)
  found (Some named) h = h named refl
  found None h = none

  there : (number : ℕ) → HasColours (length design.book) (cells_of_motif (slice_get motifs number))
  there number = found (slice_get motifs number) (λ named is. subst (λ m. HasColours (length design.book) m.motif) (get_or_from_slice_get motifs number named named is)
      (each number named (slice_get_within motifs number named is)))

  cells : (act : Act) → HasColours (length design.book) (motif_of_act motifs act)
  cells (Dot of column pick) = none
  cells (Rect of c0 p0 c1 p1) = none
  cells (Line of c0 p0 c1 p1) = none
  cells (Stamp number column pick) = there number
  cells (HalfDrop number column pick) = there number
  cells Commit = none

-- a colour that a motif has is in the book
colour_there : (n : ℕ) (cells : List (Option ℕ)) (colour : ℕ) → All (λ cell. IfSome cell (λ colour. colour < n)) cells → Contains cells (Some colour) → colour < n
colour_there n cells colour each has = All-contains (λ (cell : Option ℕ). IfSome cell (λ colour. colour < n)) cells (Some colour) each has

span_below : (n : ℕ) (motif : MotifCells) (act : Act) (colour : ℕ) → HasColour n act → HasColours n motif → IsColourOf motif act colour → colour < n
span_below n motif (Dot of column pick) colour h each is = subst (λ x. x < n) (sym is) h
span_below n motif (Rect of c0 p0 c1 p1) colour h each is = subst (λ x. x < n) (sym is) h
span_below n motif (Line of c0 p0 c1 p1) colour h each is = subst (λ x. x < n) (sym is) h
span_below n motif (Stamp number column pick) colour h each is = colour_there n motif.cells colour each is
span_below n motif (HalfDrop number column pick) colour h each is = colour_there n motif.cells colour each is
span_below n motif Commit colour h each is = absurd is

pub spans_below : (design : Design) (act : ActWithMotif) (size : Size) (spans : List Span) → IsActOf design act → AreSpansOf act.motif size act.act spans → All (λ span. span.colour < length design.book) spans
spans_below design act size spans of are k d below = span_below (length design.book) act.motif act.act (get_or spans k d).colour of.colour of.motif (are.colours k d below)
