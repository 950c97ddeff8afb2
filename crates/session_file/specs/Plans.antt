-- Which sessions can be run, how much there is in one, and the order of its acts.
use Rattle.std.specs.Prelude.{◌≡◌, ℕ, ◌+◌, ◌*◌, ◌/◌, ◌≤◌, Bool, true, false, List, length, sum_by, All, if◌then◌else◌}
use Rattle.std.specs.List.{flat_map}
use Rattle.mill_base.specs.Limits.{IsWithin}
use Rattle.mill_base.specs.declared.limits.TheConstants.{MAX_COLOURS, MAX_LOOMS, MAX_PAINTERS, MAX_SHIFTS, MAX_MOTIFS, MAX_MOTIF_CELLS, MAX_ACTS, MAX_COMMITS, MAX_REPEATS, MAX_CARD_BYTES, MAX_SHOWN_CELLS}
use Rattle.draft_model.specs.Designs.{Fits as FitsDesign, IsPaperOf}
use Rattle.draft_model.specs.declared.design.Design.{Design}
use Rattle.strokes.specs.Cells.{HasColours, IsNoLarger}
use Rattle.strokes.specs.Places.{IsThere}
use Rattle.strokes.specs.declared.act.Act.{Act}
use Rattle.strokes.specs.declared.act.Act.TheVariants.{Commit}
use Rattle.strokes.specs.declared.motifs.NamedMotif.{NamedMotif}
use Rattle.session_file.specs.declared.session.Session.{Session}
use Rattle.session_file.specs.declared.session.ShiftPlan.{ShiftPlan}

-- The plain order of the acts: shift by shift, in a shift painter by painter, and of a painter act by act.
abbrev pub acts_of_plan : ShiftPlan → List Act
acts_of_plan plan = flat_map (λ acts. acts) plan.painters

abbrev pub plain_acts : List ShiftPlan → List Act
plain_acts shifts = flat_map acts_of_plan shifts

-- how many acts there are, and how many of them are commits
abbrev pub is_commit : Act → Bool
is_commit Commit = true
is_commit _ = false

abbrev pub acts_in : List ShiftPlan → ℕ
acts_in shifts = sum_by (λ plan. sum_by length plan.painters) shifts

abbrev pub commit : Act → ℕ
commit act = if is_commit act then 1 else 0

abbrev pub commits_in : List ShiftPlan → ℕ
commits_in shifts = sum_by (λ plan. sum_by (sum_by commit) plan.painters) shifts

-- the repeats of all looms in all shifts
abbrev pub repeats_in : List ShiftPlan → ℕ
repeats_in shifts = sum_by (λ plan. sum_by (λ n. n) plan.repeats) shifts

-- the cells of all motifs: the words of all their rows
abbrev pub motif_cells : List NamedMotif → ℕ
motif_cells motifs = sum_by (λ motif. length motif.motif.cells) motifs

-- the cells of a cloth, and the bytes of holes of the cards of one version: of each pick a bit for each hook
abbrev pub cloth_cells : Design → ℕ
cloth_cells design = length design.tie.ends * design.size.picks

abbrev pub card_bytes : Design → ℕ
card_bytes design = design.size.picks * ((design.casting.hooks + 7) / 8)

-- the cells of all rows that a report shows
abbrev pub shown_cells : Bool → ℕ → ℕ → ℕ
shown_cells true repeats cells = repeats * cells
shown_cells false repeats cells = 0

-- a number of repeats for each loom, and acts that paint with what is there
pub record FitsPlan (session : Session) (plan : ShiftPlan) : Type 0 where
  pub repeats : length plan.repeats ≡ session.looms
  pub painters : length plan.painters ≤ MAX_PAINTERS
  pub acts : All (All (IsThere (length session.design.book) session.design.size session.motifs)) plan.painters

-- The parts of a session go together, and its numbers are within the studio's limits.
pub record Fits (session : Session) : Type 0 where
  pub design : FitsDesign session.design
  pub opening : IsPaperOf session.design session.opening
  pub mapped : length session.colour_map ≡ 3 * MAX_COLOURS
  pub few_motifs : length session.motifs ≤ MAX_MOTIFS
  pub motifs : All (λ motif. IsNoLarger motif.motif session.design.size) session.motifs
  pub coloured : All (λ motif. HasColours (length session.design.book) motif.motif) session.motifs
  pub cells : motif_cells session.motifs ≤ MAX_MOTIF_CELLS
  pub looms : IsWithin 1 session.looms MAX_LOOMS
  pub faces : length session.faces ≡ session.looms
  pub shifts : IsWithin 1 (length session.shifts) MAX_SHIFTS
  pub plans : All (FitsPlan session) session.shifts
  pub acts : acts_in session.shifts ≤ MAX_ACTS
  pub commits : commits_in session.shifts ≤ MAX_COMMITS
  pub repeats : repeats_in session.shifts ≤ MAX_REPEATS
  pub cards : (commits_in session.shifts + 1) * card_bytes session.design ≤ MAX_CARD_BYTES
  pub shown : shown_cells session.show_rows (repeats_in session.shifts) (cloth_cells session.design) ≤ MAX_SHOWN_CELLS
