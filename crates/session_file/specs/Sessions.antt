-- The session that a file denotes, or the first rule that is broken.
use Rattle.std.specs.Prelude.{◌≡◌, ◌⊎◌, ℕ, ◌-◌, ◌*◌, ◌==◌, nat_le, ◌&&◌, List, [], ◌∷◌, ◌++◌, length, map, take, drop, replicate, slice_get, slice_index, filter_map, codes, Option, Some, option_map, IsUtf8, if◌then◌else◌}
use Rattle.std.specs.List.{position, range_with_len}
use Rattle.toml.specs.Data.{Members}
use Rattle.toml.specs.Parse.{parse_document}
use Rattle.mill_base.specs.declared.limits.TheConstants.{MAX_COLOURS}
use Rattle.mill_base.specs.declared.size.Size.{Size}
use Rattle.weave_book.specs.declared.weaves.Weave.{Weave}
use Rattle.draft_model.specs.declared.design.Design.{Design}
use Rattle.point_paper.specs.Papers.{PaperCells, image_cell, paper_by}
use Rattle.tiff_palette.specs.Images.{Image as IsImageOf}
use Rattle.tiff_palette.specs.Rules.{image_fault}
use Rattle.tiff_palette.specs.declared.fault.TiffFault.{TiffFault}
use Rattle.tiff_palette.specs.declared.image.PaletteImage.{PaletteImage}
use Rattle.session_rules.specs.declared.fault.SessionFault.{SessionFault}
use Rattle.session_rules.specs.declared.fault.SessionFaultKind.{SessionFaultKind}
use Rattle.session_rules.specs.declared.fault.SessionFaultKind.TheVariants.{NotToml, Image as BadImage, ImageSize, ImageColour}
use Rattle.session_rules.specs.Faults.{fault}
use Rattle.session_rules.specs.Paths.{keyed}
use Rattle.session_file.specs.declared.draft.Colour.{Colour}
use Rattle.session_file.specs.declared.draft.Opening.{Opening}
use Rattle.session_file.specs.declared.draft.Opening.TheVariants.{Plain, Image}
use Rattle.session_file.specs.declared.draft.SessionDraft.{SessionDraft}
use Rattle.session_file.specs.declared.session.Session.{Session}
use Rattle.session_file.specs.Rules.{one_by_one, session_rules}
use Rattle.session_file.specs.Trade.{built}
use Rattle.session_file.specs.Values.{draft_of}

-- ---- what a file says, as a session

abbrev pub book_of : List Colour → List Weave
book_of colours = map (λ colour. colour.weave) colours

abbrev pub whole_design : SessionDraft → Design
whole_design draft = record {
  size = draft.design.size;
  book = book_of draft.colours;
  tie = draft.tie;
  casting = draft.design.casting;
  raise = draft.design.raise;
  sink = draft.design.sink;
  weft_face = draft.design.limits.weft_face;
  weft_back = draft.design.limits.weft_back;
  warp_face = draft.design.limits.warp_face;
  warp_back = draft.design.limits.warp_back;
  tile = draft.design.tile;
}

-- the red of each colour, or the green, or the blue, and 0 for each colour that the book lacks
abbrev pub shades : ℕ → List Colour → List ℕ
shades part colours = map (λ colour. slice_index colour.rgb part) colours ++ replicate (MAX_COLOURS - length colours) 0

abbrev pub colour_map_of : List Colour → List ℕ
colour_map_of colours = (shades 0 colours ++ shades 1 colours) ++ shades 2 colours

abbrev pub session_of : SessionDraft → PaperCells → Session
session_of draft opening = record {
  design = whole_design draft;
  opening = opening;
  colour_map = colour_map_of draft.colours;
  motifs = draft.motifs;
  looms = draft.head.looms;
  show_rows = draft.head.show_rows;
  faces = draft.head.faces;
  shifts = draft.shifts;
}

-- ---- the image of an opening paper

abbrev pub opening_path : List ℕ
opening_path = keyed (keyed [] (codes "design")) (codes "opening")

abbrev pub image_paper : Size → PaletteImage → PaperCells
image_paper size image = paper_by size.columns size.picks (image_cell size.columns size.picks image.pixels)

-- rule 1: the image has the size of the design
abbrev pub size_faults : Size → PaletteImage → List SessionFault
size_faults size image = if (image.width == size.columns) && (image.height == size.picks) then [] else fault opening_path (ImageSize image.width image.height)

-- rule 2: each pixel is a colour of the book; the pick, and in it the column, that are told are the first. The top row of an image is
-- the highest pick
abbrev pub pick_pixels : Size → List ℕ → ℕ → List ℕ
pick_pixels size pixels pick = take size.columns (drop ((size.picks - 1 - pick) * size.columns) pixels)

abbrev pub foreign_in : ℕ → ℕ → List ℕ → Option SessionFaultKind
foreign_in colours pick row = option_map (λ column. ImageColour column pick (slice_index row column)) (position (λ colour. nat_le colours colour) row)

unfoldable pub foreign_colour : ℕ → Size → List ℕ → Option SessionFaultKind
foreign_colour colours size pixels = slice_get (filter_map (λ pick. foreign_in colours pick (pick_pixels size pixels pick)) (range_with_len 0 size.picks)) 0

unfoldable pub image_rules : Size → ℕ → PaletteImage → List SessionFault
image_rules size colours image = one_by_one
    (size_faults size image
    ∷ built (λ kind. kind) opening_path (foreign_colour colours size image.pixels)
    ∷ [])

-- ---- the files. Where `held name content` holds, the file of the name has this content

-- the bytes are a TOML document with these members
pub record IsDocument (bytes : List ℕ) (ms : Members) : Type 0 where
  pub text : IsUtf8 bytes
  pub parsed : parse_document bytes ≡ Some ms

-- the bytes break no rule of a session file, and this is what they say
pub record Says (bytes : List ℕ) (draft : SessionDraft) : Type 0 where
  pub members : Members
  pub document : IsDocument bytes members
  pub sound : session_rules [] members ≡ []
  pub said : draft ≡ draft_of members

-- the paper of the image that these bytes are, which breaks no rule
abbrev pub IsPaperOfImage : Size → ℕ → List ℕ → PaperCells → Type 0
IsPaperOfImage size colours bytes paper = (image : PaletteImage) × IsImageOf bytes image × (image_rules size colours image ≡ []) × (paper ≡ image_paper size image)

-- the opening paper is of one colour, or it is that of an image that breaks no rule
abbrev pub Opens : (List ℕ → List ℕ → Type 0) → SessionDraft → Opening → PaperCells → Type 0
Opens held draft (Plain colour) paper = paper ≡ paper_by draft.design.size.columns draft.design.size.picks (λ column pick. colour)
Opens held draft (Image name) paper = (bytes : List ℕ) × held name bytes × IsPaperOfImage draft.design.size (length draft.colours) bytes paper

-- the first fault of an image's bytes: they are no image, or the image breaks a rule
abbrev pub IsImageFault : Size → ℕ → List ℕ → SessionFault → Type 0
IsImageFault size colours bytes broken =
    ((kind : TiffFault) × (image_fault bytes ≡ Some kind) × (broken ≡ record { path = opening_path; kind = BadImage kind }))
    ⊎ ((image : PaletteImage) × IsImageOf bytes image × (slice_get (image_rules size colours image) 0 ≡ Some broken))

abbrev pub OpensNot : (List ℕ → List ℕ → Type 0) → SessionDraft → Opening → SessionFault → Type 0
OpensNot held draft (Plain colour) broken = ⊥
OpensNot held draft (Image name) broken = (bytes : List ℕ) × held name bytes × IsImageFault draft.design.size (length draft.colours) bytes broken

-- The bytes of a session file denote this session, beside the files.
abbrev pub Denotes : (List ℕ → List ℕ → Type 0) → List ℕ → Session → Type 0
Denotes held bytes session = (draft : SessionDraft) × Says bytes draft × (paper : PaperCells) × Opens held draft draft.opening paper × (session ≡ session_of draft paper)

-- The first broken rule of the bytes of a session file: they are no document; or it is the first of the document; or it is the first of
-- the image that a document without a fault names.
abbrev pub BreaksDocument : List ℕ → SessionFault → Type 0
BreaksDocument bytes broken =
    (((ms : Members) → ¬ IsDocument bytes ms) × (broken ≡ record { path = []; kind = NotToml }))
    ⊎ ((ms : Members) × IsDocument bytes ms × (slice_get (session_rules [] ms) 0 ≡ Some broken))

abbrev pub Breaks : (List ℕ → List ℕ → Type 0) → List ℕ → SessionFault → Type 0
Breaks held bytes broken = BreaksDocument bytes broken ⊎ ((draft : SessionDraft) × Says bytes draft × OpensNot held draft draft.opening broken)

-- the bytes break no rule, and this is the file of the image that they name
abbrev pub Wants : List ℕ → List ℕ → Type 0
Wants bytes name = (draft : SessionDraft) × Says bytes draft × (draft.opening ≡ Image name)
