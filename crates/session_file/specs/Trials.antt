-- The trial session of a number: one design, and acts that are drawn from the number. It is this project's own.
use Rattle.std.specs.Prelude.{ℕ, zero, suc, ◌+◌, ◌*◌, ◌/◌, ◌%◌, ◌^◌, min, ◌==◌, false, List, [], ◌∷◌, take, drop, replicate, if◌then◌else◌}
use Rattle.mill_base.specs.Lines.{line_by}
use Rattle.mill_base.specs.declared.face.Face.TheVariants.{Up}
use Rattle.mill_base.specs.declared.size.Size.{Size}
use Rattle.casting_out.specs.Castings.{casting_of}
use Rattle.harness_ties.specs.Sections.{once}
use Rattle.harness_ties.specs.Ties.{tie_of}
use Rattle.harness_ties.specs.declared.section.SectionKind.TheVariants.{Pointed}
use Rattle.point_paper.specs.Papers.{paper_by}
use Rattle.strokes.specs.declared.act.Act.{Act}
use Rattle.strokes.specs.declared.act.Act.TheVariants.{Rect, Commit}
use Rattle.weave_book.specs.declared.weaves.Direction.TheVariants.{Right}
use Rattle.weave_book.specs.declared.weaves.SatinFace.TheVariants.{Weft, Warp}
use Rattle.weave_book.specs.declared.weaves.Weave.{Weave}
use Rattle.weave_book.specs.declared.weaves.Weave.TheVariants.{Blank, Full, Plain, Twill, Satin}
use Rattle.session_file.specs.declared.draft.Colour.{Colour}
use Rattle.session_file.specs.declared.draft.DesignPart.{DesignPart}
use Rattle.session_file.specs.declared.draft.Opening.TheVariants.{Plain as PlainPaper}
use Rattle.session_file.specs.declared.draft.SessionDraft.{SessionDraft}
use Rattle.session_file.specs.declared.session.Session.{Session}
use Rattle.session_file.specs.declared.session.ShiftPlan.{ShiftPlan}
use Rattle.session_file.specs.Sessions.{session_of}
use Rattle.session_file.specs.Values.{grey}

-- ---- draws

-- what a draw makes of a number before it answers
abbrev pub next : ℕ → ℕ
next x = (x * 6364136223846793005 + 1442695040888963407) % 2 ^ 64

-- what it then answers: a number below a bound
abbrev pub answer : ℕ → ℕ → ℕ
answer x below = x / 2 ^ 33 % below

-- what so many draws make of a number
unfoldable pub drawn : ℕ → ℕ → ℕ
drawn x zero = x
drawn x (suc k) = next (drawn x k)

-- what the k-th draw from a number on answers, counted from 1
unfoldable pub draw : ℕ → ℕ → ℕ → ℕ
draw x k below = answer (drawn x k) below

-- ---- acts, numbered from 1

-- a rectangle with a drawn colour, a drawn corner, and the other corner at most 63 columns to the right and 63 picks above
unfoldable pub drawn_rect : ℕ → Act
drawn_rect x = Rect (draw x 1 6) (draw x 2 384) (draw x 3 512) (min 383 (draw x 2 384 + draw x 4 64)) (min 511 (draw x 3 512 + draw x 5 64))

-- each twentieth act is a commit, and draws nothing; x is the number of which any other one is drawn
abbrev pub act_from : ℕ → ℕ → Act
act_from x i = if i % 20 == 0 then Commit else drawn_rect x

abbrev pub draws_of : ℕ → ℕ
draws_of i = if i % 20 == 0 then 0 else 5

-- the draws of all acts before act i
unfoldable pub draws_before : ℕ → ℕ
draws_before zero = 0
draws_before (suc i) = draws_before i + draws_of i

unfoldable pub act_of : ℕ → ℕ → Act
act_of n i = act_from (drawn n (draws_before i)) i

abbrev pub acts_of : ℕ → List Act
acts_of n = line_by 400 (λ k. act_of n (k + 1))

-- ---- the session

abbrev pub size : Size
size = record { columns = 384; picks = 512 }

-- hook 7, hook 32, and so on
abbrev pub cast_out : List ℕ
cast_out = line_by 16 (λ k. 7 + 25 * k)

abbrev pub design : DesignPart
design = record {
  size = size;
  casting = casting_of 400 cast_out 384;
  limits = record { weft_face = 15; weft_back = 15; warp_face = 15; warp_back = 15 };
  raise = Satin 8 3 Weft;
  sink = Satin 8 3 Weft;
  tile = 32;
}

-- colour k with the grey that it has by default
abbrev pub colour : ℕ → Weave → Colour
colour k weave = record { weave = weave; rgb = grey k }

abbrev pub colours : List Colour
colours =
    colour 0 Plain
    ∷ colour 1 (Satin 8 3 Weft)
    ∷ colour 2 (Satin 8 3 Warp)
    ∷ colour 3 (Twill 2 2 Right)
    ∷ colour 4 Blank
    ∷ colour 5 Full
    ∷ []

-- four looms weave three repeats each, while one painter does these acts
abbrev pub plan : List Act → ShiftPlan
plan acts = record { repeats = replicate 4 3; painters = acts ∷ [] }

-- what a session file would say of it
unfoldable pub trial_draft : ℕ → SessionDraft
trial_draft n = record {
  head = record { format = 2; looms = 4; show_rows = false; faces = replicate 4 Up };
  design = design;
  colours = colours;
  tie = record { columns = 384; ends = tie_of (once Pointed 384 ∷ []) 384 };
  motifs = [];
  opening = PlainPaper 0;
  shifts = plan (take 200 (acts_of n)) ∷ plan (drop 200 (acts_of n)) ∷ [];
}

unfoldable pub trial : ℕ → Session
trial n = session_of (trial_draft n) (paper_by 384 512 (λ column pick. 0))
