-- The replies to a list of acts, and the versions of the paper that they make, under a design.
use Rattle.std.specs.Prelude.{ℕ, ◌<◌, Bool, true, false, List, [], ◌∷◌, ◌++◌, length, map, fold, Option, Some, None, IfSome, All, if◌then◌else◌}
use Rattle.point_paper.specs.Papers.{PaperCells}
use Rattle.strokes.specs.Cells.{MotifCells}
use Rattle.strokes.specs.Paints.{after}
use Rattle.strokes.specs.Places.{HasColour, motif_of_act}
use Rattle.strokes.specs.declared.act.Act.{Act}
use Rattle.strokes.specs.declared.act.Act.TheVariants.{Dot, Rect, Line, Stamp, HalfDrop, Commit}
use Rattle.strokes.specs.declared.motifs.NamedMotif.{NamedMotif}
use Rattle.draft_model.specs.Drawdowns.{bound}
use Rattle.draft_model.specs.Floats.{first_float}
use Rattle.draft_model.specs.declared.design.Design.{Design}
use Rattle.draft_model.specs.declared.float_run.FloatRun.{FloatRun}
use Rattle.version_journal.specs.declared.entry.Reply.{Reply}
use Rattle.version_journal.specs.declared.entry.Reply.TheVariants.{Painted, Accepted, Refused}

-- an act with the cells of the motif that it names; an act that names none goes with the motif without a cell
pub record ActWithMotif : Type 0 where
  pub act : Act
  pub motif : MotifCells

-- the acts of a session, each with the cells of its motif
abbrev pub with_motif : List NamedMotif → Act → ActWithMotif
with_motif motifs act = record { act = act; motif = motif_of_act motifs act }

abbrev pub with_motifs : List NamedMotif → List Act → List ActWithMotif
with_motifs motifs acts = map (with_motif motifs) acts

-- the colours of a motif's cells are among so many
abbrev pub HasColours : ℕ → MotifCells → Type 0
HasColours colours motif = All (λ cell. IfSome cell (λ colour. colour < colours)) motif.cells

-- the colours that the act may paint are in the book
pub record IsActOf (design : Design) (act : ActWithMotif) : Type 0 where
  pub colour : HasColour (length design.book) act.act
  pub motif : HasColours (length design.book) act.motif

-- an act is a commit, or it paints
abbrev pub is_commit : Act → Bool
is_commit Commit = true
is_commit (Dot colour column pick) = false
is_commit (Rect colour column0 pick0 column1 pick1) = false
is_commit (Line colour column0 pick0 column1 pick1) = false
is_commit (Stamp motif column pick) = false
is_commit (HalfDrop motif column pick) = false

-- where a list of acts has come to: the paper as it is now, the replies so far, and the versions so far, the opening paper first
pub record History : Type 0 where
  pub paper : PaperCells
  pub replies : List Reply
  pub versions : List PaperCells

abbrev pub begun : PaperCells → History
begun opening = record { paper = opening; replies = []; versions = opening ∷ [] }

-- A paint changes the paper, and its reply is `Painted`.
abbrev pub painted : History → ActWithMotif → History
painted h act = record { paper = after act.motif h.paper act.act; replies = h.replies ++ Painted ∷ []; versions = h.versions }

-- A commit changes no paper. Where the bound paper keeps a float over its limit, it is refused with the first one. Else it is accepted,
-- and the paper as it is becomes the next version, so that the number of a version is the number of those before it.
abbrev pub reply_to_commit : ℕ → Option FloatRun → Reply
reply_to_commit number None = Accepted number
reply_to_commit number (Some float) = Refused float

abbrev pub versions_after : List PaperCells → PaperCells → Option FloatRun → List PaperCells
versions_after versions paper None = versions ++ paper ∷ []
versions_after versions paper (Some float) = versions

-- the first float over its limit in the cloth of the bound paper, if there is one
abbrev pub float_kept : Design → PaperCells → Option FloatRun
float_kept design paper = first_float design (bound design paper)

abbrev pub committed : Design → History → History
committed design h = record {
  paper = h.paper;
  replies = h.replies ++ reply_to_commit (length h.versions) (float_kept design h.paper) ∷ [];
  versions = versions_after h.versions h.paper (float_kept design h.paper);
}

-- one act more
abbrev pub step : Design → History → ActWithMotif → History
step design h act = if is_commit act.act then committed design h else painted h act

-- further acts in order, from where others have come to
abbrev pub gone_on : Design → History → List ActWithMotif → History
gone_on design h acts = fold (step design) h acts

-- the acts in order, from the opening paper on
abbrev pub history : Design → PaperCells → List ActWithMotif → History
history design opening acts = gone_on design (begun opening) acts

-- the reply to each of the acts
abbrev pub replies : Design → PaperCells → List ActWithMotif → List Reply
replies design opening acts = (history design opening acts).replies

-- the opening paper and, for each accepted commit, the paper as it was then; version k is the k-th of them, from 0
abbrev pub versions : Design → PaperCells → List ActWithMotif → List PaperCells
versions design opening acts = (history design opening acts).versions

-- the paper that the acts leave
abbrev pub paper_after : Design → PaperCells → List ActWithMotif → PaperCells
paper_after design opening acts = (history design opening acts).paper
