-- A session that was put together fits.
use Rattle.std.proofs.Common.{◌≡◌, ◌-◌, ◌*◌, ◌<◌, ◌≤◌, ℕ, List, ◌++◌, length, map, replicate, slice_index, All, get_or, sym, subst, arith}
use Rattle.std.proofs.lemmas.List.{length-append, length-map, length-replicate}
use Rattle.mill_base.specs.Limits.{IsWithin}
use Rattle.mill_base.specs.declared.limits.TheConstants.{MAX_COLOURS}
use Rattle.draft_model.specs.Designs.{Fits as FitsWhole, IsPaperOf}
use Rattle.point_paper.specs.Papers.{PaperCells, cell_of}
use Rattle.strokes.specs.Cells.{HasColours}
use Rattle.strokes.specs.Places.{IsThere}
use Rattle.session_file.specs.declared.draft.Colour.{Colour}
use Rattle.session_file.specs.declared.draft.SessionDraft.{SessionDraft}
use Rattle.session_file.specs.declared.session.Session.{Session}
use Rattle.session_file.specs.declared.session.ShiftPlan.{ShiftPlan}
use Rattle.session_file.specs.Plans.{Fits, FitsPlan}
use Rattle.session_file.specs.Sessions.{book_of, colour_map_of, session_of, shades, whole_design}
use Rattle.session_file.specs.inner.Drafts.{FitsNumbers, FitsShift, FitsValues}
use Rattle.session_file.specs.inner.Images.{HasColours as HasPaperColours}

book_length : (colours : List Colour) → length (book_of colours) ≡ length colours
book_length colours = length-map colours (λ (colour : Colour). colour.weave)

shades_length : (part : ℕ) (colours : List Colour) → length colours ≤ MAX_COLOURS → length (shades part colours) ≡ MAX_COLOURS
shades_length part colours few = omega (
  arith,
  few,
  length-append (map (λ (colour : Colour). slice_index colour.rgb part) colours) (replicate (MAX_COLOURS - length colours) 0),
  length-map colours (λ (colour : Colour). slice_index colour.rgb part),
  length-replicate {A = ℕ} (MAX_COLOURS - length colours) 0,
)

map_length : (colours : List Colour) → length colours ≤ MAX_COLOURS → length (colour_map_of colours) ≡ 3 * MAX_COLOURS
map_length colours few = omega (
  arith,
  length-append (shades 0 colours ++ shades 1 colours) (shades 2 colours),
  length-append (shades 0 colours) (shades 1 colours),
  shades_length 0 colours few,
  shades_length 1 colours few,
  shades_length 2 colours few,
)

module _ (draft : SessionDraft) (opening : PaperCells) (v : FitsValues draft) (n : FitsNumbers draft) where
  fits_design : FitsWhole (whole_design draft)
  fits_design = record {
    columns = v.design.hooks.columns;
    picks = v.design.hooks.picks;
    weaves = subst (λ (k : ℕ). IsWithin 1 k MAX_COLOURS) (sym (book_length draft.colours)) v.count;
    tie = v.tie;
    ends = (v.whole.some_end, v.whole.ends_limit);
    tied = subst (λ (k : ℕ). All (λ (column : ℕ). column < k) draft.tie.ends) v.tie v.whole.there;
    cells = n.cloth;
    casting = v.design.hooks.cast;
    hooks = v.design.hooks.hooks;
    weft_face = v.design.limits.weft_face;
    weft_back = v.design.limits.weft_back;
    warp_face = v.design.limits.warp_face;
    warp_back = v.design.limits.warp_back;
    tile = v.design.tile;
  }

  fits_plan : (plan : ShiftPlan) → FitsShift draft.head.looms (length draft.colours) draft.design.size draft.motifs plan → FitsPlan (session_of draft opening) plan
  fits_plan plan fit = record {
    repeats = fit.repeats;
    painters = fit.painters;
    acts = subst (λ (k : ℕ). All (All (IsThere k draft.design.size draft.motifs)) plan.painters) (sym (book_length draft.colours)) fit.acts;
  }

  fits_opening : opening.columns ≡ draft.design.size.columns → opening.picks ≡ draft.design.size.picks → HasPaperColours draft.design.size (length draft.colours) opening → IsPaperOf (whole_design draft) opening
  fits_opening wide high known = record {
    columns = wide;
    picks = high;
    colours = λ column pick c p. subst (λ (k : ℕ). cell_of opening column pick < k) (sym (book_length draft.colours)) (known column pick (subst (λ (k : ℕ). column < k) wide c) (subst (λ (k : ℕ). pick < k) high p));
  }

  fits_whole : opening.columns ≡ draft.design.size.columns → opening.picks ≡ draft.design.size.picks → HasPaperColours draft.design.size (length draft.colours) opening → Fits (session_of draft opening)
  fits_whole wide high known = record {
    design = fits_design;
    opening = fits_opening wide high known;
    mapped = map_length draft.colours v.count.1;
    few_motifs = v.few_motifs;
    motifs = λ k d h. (v.motifs k d h).0;
    coloured = λ k d h. subst (λ (n : ℕ). HasColours n (get_or draft.motifs k d).motif) (sym (book_length draft.colours)) (v.motifs k d h).1;
    cells = n.cells;
    looms = v.head.looms;
    faces = v.head.faces;
    shifts = v.shifts;
    plans = λ k d h. fits_plan (get_or draft.shifts k d) (v.plans k d h);
    acts = n.acts;
    commits = n.commits;
    repeats = n.repeats;
    cards = n.cards;
    shown = n.shown;
  }

pub fits_session : (draft : SessionDraft) (opening : PaperCells) (session : Session) → session ≡ session_of draft opening → FitsValues draft → FitsNumbers draft
    → (opening.columns ≡ draft.design.size.columns) × (opening.picks ≡ draft.design.size.picks) → HasPaperColours draft.design.size (length draft.colours) opening → Fits session
fits_session draft opening session is v n sized known = subst Fits (sym is) (fits_whole draft opening v n sized.0 sized.1 known)
