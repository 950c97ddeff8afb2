-- What the bytes of a session file are, is decided. Here `held` is any relation that says which content stands under a name.
use Rattle.std.proofs.Common.{◌≡◌, ◌<◌, ◌≤◌, ◌⊎◌, ℕ, Bool, true, false, List, [], ◌∷◌, length, Option, Some, None, unwrap_or, slice_get, inl, inr, refl, sym, ap, subst, ◌∙◌, arith, IsSomeAnd}
use Rattle.std.specs.Str.{is_utf8}
use Rattle.std.proofs.lemmas.Str.{IsUtf8-from_is_utf8, is_utf8-from_IsUtf8}
use Rattle.toml.specs.Data.{Members}
use Rattle.toml.specs.Parse.{parse_document}
use Rattle.mill_base.specs.declared.size.Size.{Size}
use Rattle.mill_base.specs.declared.limits.TheConstants.{MAX_FILE_BYTES}
use Rattle.mill_io.specs.Files.{File, content_of}
use Rattle.mill_io.specs.Reads.{HoldsMore}
use Rattle.point_paper.specs.Papers.{PaperCells, paper_by}
use Rattle.tiff_palette.specs.Images.{Image as IsImageOf}
use Rattle.tiff_palette.specs.Rules.{image_fault}
use Rattle.tiff_palette.specs.declared.fault.TiffFault.{TiffFault}
use Rattle.tiff_palette.specs.declared.image.PaletteImage.{PaletteImage}
use Rattle.session_rules.specs.declared.fault.SessionFault.{SessionFault}
use Rattle.session_rules.specs.declared.fault.SessionFaultKind.TheVariants.{Image as BadImage}
use Rattle.session_file.specs.declared.draft.Opening.{Opening}
use Rattle.session_file.specs.declared.draft.Opening.TheVariants.{Plain, Image}
use Rattle.session_file.specs.declared.draft.SessionDraft.{SessionDraft}
use Rattle.session_file.specs.declared.session.Session.{Session}
use Rattle.session_file.specs.Readings.{HeldIn}
use Rattle.session_file.specs.Rules.{session_rules}
use Rattle.session_file.specs.Sessions.{Breaks, BreaksDocument, Denotes, IsDocument, IsImageFault, IsPaperOfImage, Opens, OpensNot, Says, Wants, image_paper, image_rules, opening_path, session_of}
use Rattle.session_file.specs.Values.{draft_of}

-- no bytes are two images
abbrev pub OneImage : Type 0
OneImage = (bytes : List ℕ) (a b : PaletteImage) → IsImageOf bytes a → IsImageOf bytes b → a ≡ b

-- bytes without a fault are an image
abbrev pub SomeImage : Type 0
SomeImage = (bytes : List ℕ) → image_fault bytes ≡ None → (image : PaletteImage) × IsImageOf bytes image

-- no two contents stand under one name
abbrev pub OneContent : (List ℕ → List ℕ → Type 0) → Type 0
OneContent held = (name one other : List ℕ) → held name one → held name other → one ≡ other

same_some : {A : Type 0} (a b : A) → Some a ≡ Some b → a ≡ b
same_some a b e = ap (λ o. unwrap_or o a) e

none_is_not_some : {A B : Type 0} (x : A) → None ≡ Some x → B
none_is_not_some x e = absurd (cc e)

false_is_not_true : {A : Type 0} → false ≡ true → A
false_is_not_true e = absurd (cc e)

-- where there is no fault, none is the first
none_first : (faults : List SessionFault) (broken : SessionFault) → faults ≡ [] → slice_get faults 0 ≡ Some broken → ⊥
none_first faults broken none first =
    let nothing : slice_get faults 0 ≡ None = ap (λ (all : List SessionFault). slice_get all 0) none in none_is_not_some broken (sym nothing ∙ first)

one_first : (faults others : List SessionFault) (one other : SessionFault) → faults ≡ others → slice_get faults 0 ≡ Some one → slice_get others 0 ≡ Some other → one ≡ other
one_first faults others one other same a b = same_some one other (sym a ∙ ap (λ (all : List SessionFault). slice_get all 0) same ∙ b)

-- ---- the document

one_document : (bytes : List ℕ) (one other : Members) → IsDocument bytes one → IsDocument bytes other → one ≡ other
one_document bytes one other a b = same_some one other (sym a.parsed ∙ b.parsed)

one_draft : (bytes : List ℕ) (one other : SessionDraft) → Says bytes one → Says bytes other → one ≡ other
one_draft bytes one other a b = a.said ∙ ap draft_of (one_document bytes a.members b.members a.document b.document) ∙ sym b.said

-- a document without a fault has no first fault
says_unbroken : (bytes : List ℕ) (draft : SessionDraft) (broken : SessionFault) → Says bytes draft → BreaksDocument bytes broken → ⊥
says_unbroken bytes draft broken says (inl none) = none.0 says.members says.document
says_unbroken bytes draft broken says (inr first) =
    none_first (session_rules [] first.0) broken (ap (session_rules []) (one_document bytes first.0 says.members first.1 says.document) ∙ says.sound) first.2

one_document_fault : (bytes : List ℕ) (one other : SessionFault) → BreaksDocument bytes one → BreaksDocument bytes other → one ≡ other
one_document_fault bytes one other (inl a) (inl b) = a.1 ∙ sym b.1
one_document_fault bytes one other (inl a) (inr b) = absurd (a.0 b.0 b.1)
one_document_fault bytes one other (inr a) (inl b) = absurd (b.0 a.0 a.1)
one_document_fault bytes one other (inr a) (inr b) =
    one_first (session_rules [] a.0) (session_rules [] b.0) one other (ap (session_rules []) (one_document bytes a.0 b.0 a.1 b.1)) a.2 b.2

document_by : (bytes : List ℕ) (text : Bool) (parsed : Option Members) → is_utf8 bytes ≡ text → parse_document bytes ≡ parsed
    → ((ms : Members) × IsDocument bytes ms) ⊎ ((ms : Members) → IsDocument bytes ms → ⊥)
document_by bytes true (Some ms) text parsed = inl (ms, record { text = IsUtf8-from_is_utf8 bytes text; parsed = parsed })
document_by bytes true None text parsed = inr (λ ms document. none_is_not_some ms (sym parsed ∙ document.parsed))
document_by bytes false found text parsed = inr (λ ms document. false_is_not_true (sym text ∙ is_utf8-from_IsUtf8 bytes document.text))

-- ---- the image

one_paper : OneImage → (size : Size) (colours : ℕ) (bytes : List ℕ) (one other : PaperCells) → IsPaperOfImage size colours bytes one → IsPaperOfImage size colours bytes other → one ≡ other
one_paper image size colours bytes one other a b = a.3 ∙ ap (image_paper size) (image bytes a.0 b.0 a.1 b.1) ∙ sym b.3

paper_unbroken : OneImage → (size : Size) (colours : ℕ) (bytes : List ℕ) (paper : PaperCells) (broken : SessionFault) → IsPaperOfImage size colours bytes paper → IsImageFault size colours bytes broken → ⊥
paper_unbroken image size colours bytes paper broken a (inl fault) = none_is_not_some fault.0 (sym a.1.sound ∙ fault.1)
paper_unbroken image size colours bytes paper broken a (inr first) =
    none_first (image_rules size colours first.0) broken (ap (image_rules size colours) (image bytes first.0 a.0 first.1 a.1) ∙ a.2) first.2

abbrev no_image : TiffFault → SessionFault
no_image kind = record { path = opening_path; kind = BadImage kind }

one_image_fault : OneImage → (size : Size) (colours : ℕ) (bytes : List ℕ) (one other : SessionFault) → IsImageFault size colours bytes one → IsImageFault size colours bytes other → one ≡ other
one_image_fault image size colours bytes one other (inl a) (inl b) = a.2 ∙ ap no_image (same_some a.0 b.0 (sym a.1 ∙ b.1)) ∙ sym b.2
one_image_fault image size colours bytes one other (inl a) (inr b) = none_is_not_some a.0 (sym b.1.sound ∙ a.1)
one_image_fault image size colours bytes one other (inr a) (inl b) = none_is_not_some b.0 (sym a.1.sound ∙ b.1)
one_image_fault image size colours bytes one other (inr a) (inr b) =
    one_first (image_rules size colours a.0) (image_rules size colours b.0) one other (ap (image_rules size colours) (image bytes a.0 b.0 a.1 b.1)) a.2 b.2

abbrev PaperOrFault : Size → ℕ → List ℕ → Type 0
PaperOrFault size colours bytes = ((paper : PaperCells) × IsPaperOfImage size colours bytes paper) ⊎ ((broken : SessionFault) × IsImageFault size colours bytes broken)

paper_by_rules : (size : Size) (colours : ℕ) (bytes : List ℕ) (image : PaletteImage) (faults : List SessionFault) → IsImageOf bytes image → image_rules size colours image ≡ faults → PaperOrFault size colours bytes
paper_by_rules size colours bytes image [] is e = inl (image_paper size image, (image, is, e, refl))
paper_by_rules size colours bytes image (broken ∷ later) is e = inr (broken, inr (image, is, ap (λ (all : List SessionFault). slice_get all 0) e))

paper_by_bytes : SomeImage → (size : Size) (colours : ℕ) (bytes : List ℕ) (fault : Option TiffFault) → image_fault bytes ≡ fault → PaperOrFault size colours bytes
paper_by_bytes some size colours bytes None e = let image = some bytes e in paper_by_rules size colours bytes image.0 (image_rules size colours image.0) image.1 refl
paper_by_bytes some size colours bytes (Some kind) e = inr (no_image kind, inl (kind, e, refl))

-- ---- the opening

one_opening : OneImage → (held : List ℕ → List ℕ → Type 0) → OneContent held → (draft : SessionDraft) (opening : Opening) (one other : PaperCells)
    → Opens held draft opening one → Opens held draft opening other → one ≡ other
one_opening image held content draft (Plain colour) one other a b = a ∙ sym b
one_opening image held content draft (Image name) one other a b =
    one_paper image draft.design.size (length draft.colours) a.0 one other a.2
    (subst (λ (bytes : List ℕ). IsPaperOfImage draft.design.size (length draft.colours) bytes other) (content name b.0 a.0 b.1 a.1) b.2)

opening_unbroken : OneImage → (held : List ℕ → List ℕ → Type 0) → OneContent held → (draft : SessionDraft) (opening : Opening) (paper : PaperCells) (broken : SessionFault)
    → Opens held draft opening paper → OpensNot held draft opening broken → ⊥
opening_unbroken image held content draft (Plain colour) paper broken a b = b
opening_unbroken image held content draft (Image name) paper broken a b =
    paper_unbroken image draft.design.size (length draft.colours) a.0 paper broken a.2
    (subst (λ (bytes : List ℕ). IsImageFault draft.design.size (length draft.colours) bytes broken) (content name b.0 a.0 b.1 a.1) b.2)

one_opening_fault : OneImage → (held : List ℕ → List ℕ → Type 0) → OneContent held → (draft : SessionDraft) (opening : Opening) (one other : SessionFault)
    → OpensNot held draft opening one → OpensNot held draft opening other → one ≡ other
one_opening_fault image held content draft (Plain colour) one other a b = absurd a
one_opening_fault image held content draft (Image name) one other a b =
    one_image_fault image draft.design.size (length draft.colours) a.0 one other a.2
    (subst (λ (bytes : List ℕ). IsImageFault draft.design.size (length draft.colours) bytes other) (content name b.0 a.0 b.1 a.1) b.2)

opening_by : SomeImage → (held : List ℕ → List ℕ → Type 0) (draft : SessionDraft) (opening : Opening) → ((name : List ℕ) → opening ≡ Image name → (content : List ℕ) × held name content)
    → ((paper : PaperCells) × Opens held draft opening paper) ⊎ ((broken : SessionFault) × OpensNot held draft opening broken)
opening_by some held draft (Plain colour) there = inl (paper_by draft.design.size.columns draft.design.size.picks (λ column pick. colour), refl)
opening_by some held draft (Image name) there =
    let file : (content : List ℕ) × held name content = there name refl in
    elim (paper_by_bytes some draft.design.size (length draft.colours) file.0 (image_fault file.0) refl) [
      | inl paper ↦ inl (paper.0, (file.0, file.1, paper.1))
      | inr fault ↦ inr (fault.0, (file.0, file.1, fault.1))
    ]

-- ---- the laws

pub one_session : OneImage → (held : List ℕ → List ℕ → Type 0) → OneContent held → (bytes : List ℕ) (one other : Session) → Denotes held bytes one → Denotes held bytes other → one ≡ other
one_session image held content bytes one other a b =
    let same : b.0 ≡ a.0 = one_draft bytes b.0 a.0 b.1 a.1 in
    let opens : Opens held a.0 a.0.opening b.2 = subst (λ (draft : SessionDraft). Opens held draft draft.opening b.2) same b.3 in
    a.4 ∙ ap (session_of a.0) (one_opening image held content a.0 a.0.opening a.2 b.2 a.3 opens) ∙ ap (λ (draft : SessionDraft). session_of draft b.2) (sym same) ∙ sym b.4

pub no_rule_broken : OneImage → (held : List ℕ → List ℕ → Type 0) → OneContent held → (bytes : List ℕ) (session : Session) (broken : SessionFault) → Denotes held bytes session → Breaks held bytes broken → ⊥
no_rule_broken image held content bytes session broken a (inl document) = says_unbroken bytes a.0 broken a.1 document
no_rule_broken image held content bytes session broken a (inr b) =
    opening_unbroken image held content a.0 a.0.opening a.2 broken a.3
    (subst (λ (draft : SessionDraft). OpensNot held draft draft.opening broken) (one_draft bytes b.0 a.0 b.1 a.1) b.2)

pub one_fault : OneImage → (held : List ℕ → List ℕ → Type 0) → OneContent held → (bytes : List ℕ) (one other : SessionFault) → Breaks held bytes one → Breaks held bytes other → one ≡ other
one_fault image held content bytes one other (inl a) (inl b) = one_document_fault bytes one other a b
one_fault image held content bytes one other (inl a) (inr b) = absurd (says_unbroken bytes b.0 one b.1 a)
one_fault image held content bytes one other (inr a) (inl b) = absurd (says_unbroken bytes a.0 other a.1 b)
one_fault image held content bytes one other (inr a) (inr b) =
    one_opening_fault image held content a.0 a.0.opening one other a.2
    (subst (λ (draft : SessionDraft). OpensNot held draft draft.opening other) (one_draft bytes b.0 a.0 b.1 a.1) b.2)

abbrev SessionOrFault : (List ℕ → List ℕ → Type 0) → List ℕ → Type 0
SessionOrFault held bytes = ((session : Session) × Denotes held bytes session) ⊎ ((broken : SessionFault) × Breaks held bytes broken)

-- what a document without a fault says
said_by : SomeImage → (held : List ℕ → List ℕ → Type 0) (bytes : List ℕ) (draft : SessionDraft) → Says bytes draft
    → ((name : List ℕ) → Wants bytes name → (content : List ℕ) × held name content) → SessionOrFault held bytes
said_by some held bytes draft says there =
    elim (opening_by some held draft draft.opening (λ name is. there name (draft, says, is))) [
      | inl paper ↦ inl (session_of draft paper.0, (draft, says, paper.0, paper.1, refl))
      | inr fault ↦ inr (fault.0, inr (draft, says, fault.1))
    ]

ruled_by : SomeImage → (held : List ℕ → List ℕ → Type 0) (bytes : List ℕ) (ms : Members) (faults : List SessionFault) → IsDocument bytes ms → session_rules [] ms ≡ faults
    → ((name : List ℕ) → Wants bytes name → (content : List ℕ) × held name content) → SessionOrFault held bytes
ruled_by some held bytes ms [] document e there = said_by some held bytes (draft_of ms) (record { members = ms; document = document; sound = e; said = refl }) there
ruled_by some held bytes ms (broken ∷ later) document e there = inr (broken, inl (inr (ms, document, ap (λ (all : List SessionFault). slice_get all 0) e)))

pub session_or_fault : SomeImage → (held : List ℕ → List ℕ → Type 0) (bytes : List ℕ) → ((name : List ℕ) → Wants bytes name → (content : List ℕ) × held name content) → SessionOrFault held bytes
session_or_fault some held bytes there =
    elim (document_by bytes (is_utf8 bytes) (parse_document bytes) refl refl) [
      | inl document ↦ ruled_by some held bytes document.0 (session_rules [] document.0) document.1 refl there
      | inr none ↦ inr (_, inl (inl (none, refl)))
    ]

-- the draft of bytes that name an image has that opening
names : (bytes name : List ℕ) (draft : SessionDraft) → Says bytes draft → Wants bytes name → draft.opening ≡ Image name
names bytes name draft says wants = ap (λ (d : SessionDraft). d.opening) (one_draft bytes draft wants.0 says wants.1) ∙ wants.2

pub has_image : (held : List ℕ → List ℕ → Type 0) (bytes name : List ℕ) (session : Session) → Denotes held bytes session → Wants bytes name → (content : List ℕ) × held name content
has_image held bytes name session a wants =
    let opens : Opens held a.0 (Image name) a.2 = subst (λ (opening : Opening). Opens held a.0 opening a.2) (names bytes name a.0 a.1 wants) a.3 in (opens.0, opens.1)

pub has_broken_image : (held : List ℕ → List ℕ → Type 0) (bytes name : List ℕ) (broken : SessionFault) → Breaks held bytes broken → Wants bytes name → (content : List ℕ) × held name content
has_broken_image held bytes name broken (inl a) wants = absurd (says_unbroken bytes wants.0 broken wants.1 a)
has_broken_image held bytes name broken (inr a) wants =
    let opens : OpensNot held a.0 (Image name) broken = subst (λ (opening : Opening). OpensNot held a.0 opening broken) (names bytes name a.0 a.1 wants) a.2 in (opens.0, opens.1)

abbrev name_in : List ℕ → Opening → List ℕ
name_in default (Plain colour) = default
name_in default (Image name) = name

pub one_name : (bytes one other : List ℕ) → Wants bytes one → Wants bytes other → one ≡ other
one_name bytes one other a b = ap (name_in one) (sym a.2 ∙ names bytes other a.0 a.1 b)

-- ---- other files

opened_beside : (held other : List ℕ → List ℕ → Type 0) (draft : SessionDraft) (opening : Opening) (paper : PaperCells)
    → ((name content : List ℕ) → opening ≡ Image name → held name content → other name content) → Opens held draft opening paper → Opens other draft opening paper
opened_beside held other draft (Plain colour) paper same a = a
opened_beside held other draft (Image name) paper same a = (a.0, same name a.0 refl a.1, a.2)

unopened_beside : (held other : List ℕ → List ℕ → Type 0) (draft : SessionDraft) (opening : Opening) (broken : SessionFault)
    → ((name content : List ℕ) → opening ≡ Image name → held name content → other name content) → OpensNot held draft opening broken → OpensNot other draft opening broken
unopened_beside held other draft (Plain colour) broken same a = a
unopened_beside held other draft (Image name) broken same a = (a.0, same name a.0 refl a.1, a.2)

pub denoted_beside : (held other : List ℕ → List ℕ → Type 0) (bytes : List ℕ) (session : Session) → ((name content : List ℕ) → Wants bytes name → held name content → other name content)
    → Denotes held bytes session → Denotes other bytes session
denoted_beside held other bytes session same a =
    (a.0, a.1, a.2, opened_beside held other a.0 a.0.opening a.2 (λ name content named. same name content (a.0, a.1, named)) a.3, a.4)

pub broken_beside : (held other : List ℕ → List ℕ → Type 0) (bytes : List ℕ) (broken : SessionFault) → ((name content : List ℕ) → Wants bytes name → held name content → other name content)
    → Breaks held bytes broken → Breaks other bytes broken
broken_beside held other bytes broken same (inl a) = inl a
broken_beside held other bytes broken same (inr a) =
    inr (a.0, a.1, unopened_beside held other a.0 a.0.opening broken (λ name content named. same name content (a.0, a.1, named)) a.2)

-- ---- the files of a shelf

pub one_content : (files : List File) (name one other : List ℕ) → HeldIn (Some files) name one → HeldIn (Some files) name other → one ≡ other
one_content files name one other a b = same_some one other (sym a.0 ∙ b.0)

pub one_under : (content_under : List ℕ → Option (List ℕ)) (name one other : List ℕ) → content_under name ≡ Some one → content_under name ≡ Some other → one ≡ other
one_under content_under name one other a b = same_some one other (sym a ∙ b)

longer : (found : Option (List ℕ)) (content : List ℕ) (limit : ℕ) → found ≡ Some content → length content ≤ limit → IsSomeAnd found (λ there. limit < length there) → ⊥
longer found content limit e within more =
    let long : limit < length content = subst (λ (o : Option (List ℕ)). IsSomeAnd o (λ there. limit < length there)) e more in omega (arith, long, within)

pub not_too_long : (files : List File) (name content : List ℕ) → HeldIn (Some files) name content → HoldsMore (Some files) name MAX_FILE_BYTES → ⊥
not_too_long files name content a more = longer (content_of files name) content MAX_FILE_BYTES a.0 a.1 more
