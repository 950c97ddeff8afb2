-- What a session file says, key by key, where it breaks no rule.
use Rattle.std.specs.Prelude.{ℕ, ◌*◌, min, ◌==◌, false, List, [], ◌∷◌, length, codes, replicate, if◌then◌else◌}
use Rattle.toml.specs.Data.{Data, Members, no_members}
use Rattle.mill_base.specs.declared.limits.TheConstants.{DEFAULT_TILE}
use Rattle.mill_base.specs.declared.face.Face.{Face}
use Rattle.mill_base.specs.declared.face.Face.TheVariants.{Up}
use Rattle.mill_base.specs.declared.size.Size.{Size}
use Rattle.casting_out.specs.Castings.{CastingValue, casting_of}
use Rattle.harness_ties.specs.Ties.{TieValue, tie_of}
use Rattle.harness_ties.specs.declared.section.Section.{Section}
use Rattle.weave_book.specs.declared.weaves.Weave.TheVariants.{Blank}
use Rattle.strokes.specs.Motifs.{motif_of}
use Rattle.strokes.specs.declared.motifs.NamedMotif.{NamedMotif}
use Rattle.session_rules.specs.Values.{number, text_in, meaning_in, values, values_by, each_value, members_give, value_at}
use Rattle.session_file.specs.declared.draft.Colour.{Colour}
use Rattle.session_file.specs.declared.draft.FloatLimits.{FloatLimits}
use Rattle.session_file.specs.declared.draft.DesignPart.{DesignPart}
use Rattle.session_file.specs.declared.draft.Head.{Head}
use Rattle.session_file.specs.declared.draft.Opening.{Opening}
use Rattle.session_file.specs.declared.draft.Opening.TheVariants.{Plain}
use Rattle.session_file.specs.declared.draft.SessionDraft.{SessionDraft}
use Rattle.session_file.specs.declared.session.ShiftPlan.{ShiftPlan}
use Rattle.session_file.specs.Trade.{act_in, face_of, kind_of, opening_in, shows_rows, weave_in}

-- ---- the single values of the top table

unfoldable pub format_in : Members → ℕ
format_in = value_at (codes "format") number 0

unfoldable pub looms_in : Members → ℕ
looms_in = value_at (codes "looms") number 1

unfoldable pub faces_in : ℕ → Members → List Face
faces_in looms = value_at (codes "faces") (values (meaning_in face_of)) (replicate looms Up)

unfoldable pub head_of : Members → Head
head_of ms = record {
  format = format_in ms;
  looms = looms_in ms;
  show_rows = value_at (codes "show") (meaning_in shows_rows) false ms;
  faces = faces_in (looms_in ms) ms;
}

-- ---- the table `design`

unfoldable pub columns_in : Members → ℕ
columns_in = value_at (codes "columns") number 0

unfoldable pub picks_in : Members → ℕ
picks_in = value_at (codes "picks") number 0

unfoldable pub hooks_in : Members → ℕ
hooks_in ms = value_at (codes "hooks") number (columns_in ms) ms

unfoldable pub cast_out_in : Members → List ℕ
cast_out_in = value_at (codes "cast_out") (values number) []

unfoldable pub size_in : Members → Size
size_in ms = record { columns = columns_in ms; picks = picks_in ms }

unfoldable pub casting_in : Members → CastingValue
casting_in ms = casting_of (hooks_in ms) (cast_out_in ms) (columns_in ms)

-- format 1 has one limit for both sides of the cloth
abbrev pub either_limit : ℕ → List ℕ → List ℕ → Members → ℕ
either_limit format one two = value_at (if format == 1 then one else two) number 0

unfoldable pub float_limits_in : ℕ → Members → FloatLimits
float_limits_in format ms = record {
  weft_face = either_limit format (codes "weft_limit") (codes "weft_face") ms;
  weft_back = either_limit format (codes "weft_limit") (codes "weft_back") ms;
  warp_face = either_limit format (codes "warp_limit") (codes "warp_face") ms;
  warp_back = either_limit format (codes "warp_limit") (codes "warp_back") ms;
}

unfoldable pub design_of : ℕ → Members → DesignPart
design_of format ms = record {
  size = size_in ms;
  casting = casting_in ms;
  limits = float_limits_in format ms;
  raise = value_at (codes "raise") weave_in Blank ms;
  sink = value_at (codes "sink") weave_in Blank ms;
  tile = value_at (codes "tile") number DEFAULT_TILE ms;
}

-- ---- a table of `colour`

-- the default of colour k is the grey 257 * k; there are at most 256 colours
abbrev pub level : ℕ → ℕ
level k = 257 * min k 255

abbrev pub grey : ℕ → List ℕ
grey k = level k ∷ level k ∷ level k ∷ []

unfoldable pub colour_of : ℕ → Members → Colour
colour_of k ms = record {
  weave = value_at (codes "weave") weave_in Blank ms;
  rgb = value_at (codes "rgb") (values number) (grey k) ms;
}

-- ---- a table of `tie`

unfoldable pub section_of : Members → Section
section_of ms = record {
  kind = value_at (codes "kind") (meaning_in kind_of) (kind_of []) ms;
  from = value_at (codes "from") number 0 ms;
  to = value_at (codes "to") number 0 ms;
  times = value_at (codes "times") number 1 ms;
}

-- ---- a table of `motif`

unfoldable pub named_motif_of : Members → NamedMotif
named_motif_of ms = record {
  name = value_at (codes "name") text_in [] ms;
  motif = motif_of (value_at (codes "rows") (values text_in) [] ms);
}

-- the motifs of some tables
abbrev pub motifs_of : List Data → List NamedMotif
motifs_of = each_value (λ earlier. members_give named_motif_of) []

-- ---- a table of `shift`

unfoldable pub plan_of : ℕ → Size → List NamedMotif → Members → ShiftPlan
plan_of colours size motifs ms = record {
  repeats = value_at (codes "repeats") (values number) [] ms;
  painters = value_at (codes "acts") (values (values (act_in colours size motifs))) [] ms;
}

-- ---- the tables of the top table

unfoldable pub design_in : Members → DesignPart
design_in ms = value_at (codes "design") (members_give (design_of (format_in ms))) (design_of (format_in ms) no_members) ms

unfoldable pub colours_in : Members → List Colour
colours_in = value_at (codes "colour") (values_by (λ earlier. members_give (colour_of (length earlier)))) []

unfoldable pub sections_in : Members → List Section
sections_in = value_at (codes "tie") (values (members_give section_of)) []

unfoldable pub tie_in : ℕ → Members → TieValue
tie_in columns ms = record { columns = columns; ends = tie_of (sections_in ms) columns }

unfoldable pub motifs_in : Members → List NamedMotif
motifs_in = value_at (codes "motif") (values (members_give named_motif_of)) []

abbrev pub opening_key : Members → Opening
opening_key = value_at (codes "opening") opening_in (Plain 0)

unfoldable pub opening_of : Members → Opening
opening_of = value_at (codes "design") (members_give opening_key) (opening_key no_members)

unfoldable pub shifts_in : ℕ → Size → List NamedMotif → Members → List ShiftPlan
shifts_in colours size motifs = value_at (codes "shift") (values (members_give (plan_of colours size motifs))) []

unfoldable pub draft_of : Members → SessionDraft
draft_of ms = record {
  head = head_of ms;
  design = design_in ms;
  colours = colours_in ms;
  tie = tie_in (design_in ms).size.columns ms;
  motifs = motifs_in ms;
  opening = opening_of ms;
  shifts = shifts_in (length (colours_in ms)) (design_in ms).size (motifs_in ms) ms;
}
