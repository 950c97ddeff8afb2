-- What holds of the parts of a session file that were read.
use Rattle.std.specs.Prelude.{◌≡◌, ◌-◌, ◌≤◌, ⊤, ℕ, List, length, All}
use Rattle.mill_base.specs.Limits.{IsWithin}
use Rattle.mill_base.specs.declared.limits.TheConstants.{MAX_COLUMNS, MAX_PICKS, MAX_COLOURS, MAX_HOOKS, MAX_FLOAT, MIN_TILE, MAX_TILE, MAX_LOOMS, MAX_PAINTERS, MAX_SHIFTS, MAX_MOTIFS, MAX_REPEATS, MAX_CLOTH_CELLS, MAX_MOTIF_CELLS, MAX_ACTS, MAX_COMMITS, MAX_CARD_BYTES, MAX_SHOWN_CELLS}
use Rattle.mill_base.specs.declared.size.Size.{Size}
use Rattle.casting_out.specs.Castings.{CastingValue}
use Rattle.strokes.specs.Cells.{HasColours, IsNoLarger}
use Rattle.strokes.specs.Places.{IsThere}
use Rattle.strokes.specs.declared.motifs.NamedMotif.{NamedMotif}
use Rattle.session_file.specs.declared.draft.Colour.{Colour}
use Rattle.session_file.specs.declared.draft.DesignPart.{DesignPart}
use Rattle.session_file.specs.declared.draft.FloatLimits.{FloatLimits}
use Rattle.session_file.specs.declared.draft.Head.{Head}
use Rattle.session_file.specs.declared.draft.Opening.{Opening}
use Rattle.session_file.specs.declared.draft.Opening.TheVariants.{Plain, Image}
use Rattle.harness_ties.specs.Ties.{IsTie}
use Rattle.session_file.specs.declared.draft.SessionDraft.{SessionDraft}
use Rattle.session_file.specs.declared.session.ShiftPlan.{ShiftPlan}
use Rattle.session_file.specs.Plans.{acts_in, motif_cells, repeats_in}
use Rattle.session_file.specs.Rules.{cards_of, cloth_of, commits_of, shown_of}

pub record FitsHead (head : Head) : Type 0 where
  pub format : IsWithin 1 head.format 2
  pub looms : IsWithin 1 head.looms MAX_LOOMS
  pub faces : length head.faces ≡ head.looms

pub record FitsLimits (limits : FloatLimits) : Type 0 where
  pub weft_face : IsWithin 1 limits.weft_face MAX_FLOAT
  pub weft_back : IsWithin 1 limits.weft_back MAX_FLOAT
  pub warp_face : IsWithin 1 limits.warp_face MAX_FLOAT
  pub warp_back : IsWithin 1 limits.warp_back MAX_FLOAT

pub record FitsHooks (size : Size) (casting : CastingValue) : Type 0 where
  pub columns : IsWithin 1 size.columns MAX_COLUMNS
  pub picks : IsWithin 1 size.picks MAX_PICKS
  pub cast : length casting.columns ≡ size.columns
  pub hooks : IsWithin 1 casting.hooks MAX_HOOKS

pub record FitsDesign (design : DesignPart) : Type 0 where
  pub hooks : FitsHooks design.size design.casting
  pub limits : FitsLimits design.limits
  pub tile : IsWithin MIN_TILE design.tile MAX_TILE

abbrev pub FitsColour : Colour → Type 0
FitsColour colour = length colour.rgb ≡ 3

abbrev pub IsOpening : ℕ → Opening → Type 0
IsOpening colours (Plain colour) = colour ≤ colours - 1
IsOpening colours (Image name) = ⊤

abbrev pub FitMotifs : ℕ → Size → List NamedMotif → Type 0
FitMotifs colours size motifs = All (λ motif. IsNoLarger motif.motif size × HasColours colours motif.motif) motifs

-- a plan of so many looms, with acts that paint with what is there
pub record FitsShift (looms : ℕ) (colours : ℕ) (size : Size) (motifs : List NamedMotif) (plan : ShiftPlan) : Type 0 where
  pub repeats : length plan.repeats ≡ looms
  pub painters : length plan.painters ≤ MAX_PAINTERS
  pub acts : All (All (IsThere colours size motifs)) plan.painters

-- the numbers of the whole session are few enough
pub record FitsNumbers (draft : SessionDraft) : Type 0 where
  pub cloth : cloth_of draft ≤ MAX_CLOTH_CELLS
  pub cells : motif_cells draft.motifs ≤ MAX_MOTIF_CELLS
  pub acts : acts_in draft.shifts ≤ MAX_ACTS
  pub commits : commits_of draft ≤ MAX_COMMITS
  pub repeats : repeats_in draft.shifts ≤ MAX_REPEATS
  pub cards : cards_of draft ≤ MAX_CARD_BYTES
  pub shown : shown_of draft ≤ MAX_SHOWN_CELLS

-- the values, before they are counted
pub record FitsValues (draft : SessionDraft) : Type 0 where
  pub head : FitsHead draft.head
  pub design : FitsDesign draft.design
  pub count : IsWithin 1 (length draft.colours) MAX_COLOURS
  pub colours : All FitsColour draft.colours
  pub tie : draft.tie.columns ≡ draft.design.size.columns
  pub whole : IsTie draft.tie
  pub few_motifs : length draft.motifs ≤ MAX_MOTIFS
  pub motifs : FitMotifs (length draft.colours) draft.design.size draft.motifs
  pub opening : IsOpening (length draft.colours) draft.opening
  pub shifts : IsWithin 1 (length draft.shifts) MAX_SHIFTS
  pub plans : All (FitsShift draft.head.looms (length draft.colours) draft.design.size draft.motifs) draft.shifts
