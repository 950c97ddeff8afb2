-- The checks of a session file that speak of the trade, and what such a value gives.
use Rattle.std.specs.Prelude.{ℕ, ◌-◌, nat_lt, nat_le, ◌==◌, not, Bool, ◌&&◌, ◌||◌, List, [], ◌∷◌, length, Option, Some, None, is_some, Result, Ok, Err, bytes_eq, codes, if◌then◌else◌}
use Rattle.std.specs.List.{list_all}
use Rattle.std.specs.Option.{option_map_or}
use Rattle.std.specs.Result.{result_unwrap_or}
use Rattle.toml.specs.Data.{Data, as_str}
use Rattle.mill_base.specs.declared.face.Face.{Face}
use Rattle.mill_base.specs.declared.face.Face.TheVariants.{Up, Down}
use Rattle.mill_base.specs.declared.size.Size.{Size}
use Rattle.harness_ties.specs.declared.section.SectionKind.{SectionKind}
use Rattle.harness_ties.specs.declared.section.SectionKind.TheVariants.{Straight, Reverse, Pointed}
use Rattle.weave_book.specs.Spelling.{parsed}
use Rattle.weave_book.specs.declared.weaves.Weave.{Weave}
use Rattle.weave_book.specs.declared.weaves.Weave.TheVariants.{Blank}
use Rattle.strokes.specs.Acts.{parsed_act}
use Rattle.strokes.specs.Motifs.{motif_number}
use Rattle.strokes.specs.declared.act.Act.{Act}
use Rattle.strokes.specs.declared.act.Act.TheVariants.{Commit}
use Rattle.strokes.specs.declared.motifs.NamedMotif.{NamedMotif}
use Rattle.session_rules.specs.declared.fault.SessionFault.{SessionFault}
use Rattle.session_rules.specs.declared.fault.SessionFaultKind.{SessionFaultKind}
use Rattle.session_rules.specs.declared.fault.SessionFaultKind.TheVariants.{Name, Weave as BadWeave, Act as BadAct}
use Rattle.session_rules.specs.Checks.{Check, typed, whole}
use Rattle.session_rules.specs.Faults.{fault}
use Rattle.session_rules.specs.Values.{number}
use Rattle.session_file.specs.declared.draft.Opening.{Opening}
use Rattle.session_file.specs.declared.draft.Opening.TheVariants.{Plain, Image}

-- what is built of some values, or the fault of it
abbrev pub built : {F : Type 0} → (F → SessionFaultKind) → List ℕ → Option F → List SessionFault
built kind path None = []
built kind path (Some broken) = fault path (kind broken)

-- what is spelled by a text, or the fault of it
abbrev pub spelled : {A F : Type 0} → (F → SessionFaultKind) → List ℕ → Result A F → List SessionFault
spelled kind path (Ok x) = []
spelled kind path (Err broken) = fault path (kind broken)

-- ---- words

abbrev pub show_words : List (List ℕ)
show_words = codes "digest" ∷ codes "rows" ∷ []

abbrev pub shows_rows : List ℕ → Bool
shows_rows word = bytes_eq word (codes "rows")

abbrev pub face_words : List (List ℕ)
face_words = codes "up" ∷ codes "down" ∷ []

abbrev pub face_of : List ℕ → Face
face_of word = if bytes_eq word (codes "down") then Down else Up

abbrev pub kind_words : List (List ℕ)
kind_words = codes "straight" ∷ codes "reverse" ∷ codes "pointed" ∷ []

abbrev pub kind_of : List ℕ → SectionKind
kind_of word = if bytes_eq word (codes "reverse") then Reverse else (if bytes_eq word (codes "pointed") then Pointed else Straight)

-- ---- a text that spells a weave

unfoldable pub weave : Check
weave path d = typed (λ text. spelled BadWeave path (parsed text)) path (as_str d)

unfoldable pub weave_in : Data → Weave
weave_in d = option_map_or (λ text. result_unwrap_or (parsed text) Blank) (as_str d) Blank

-- ---- a name that no earlier motif has: 1 to 32 bytes, each of `a` to `z`, `0` to `9` and `_`

abbrev pub is_name_byte : ℕ → Bool
is_name_byte byte = (nat_le 97 byte && nat_le byte 122) || (nat_le 48 byte && nat_le byte 57) || (byte == 95)

unfoldable pub is_name : List ℕ → Bool
is_name text = nat_lt 0 (length text) && nat_le (length text) 32 && list_all is_name_byte text

abbrev pub named : List NamedMotif → List ℕ → List ℕ → List SessionFault
named earlier path text = if is_name text && not (is_some (motif_number earlier text)) then [] else fault path Name

unfoldable pub new_name : List NamedMotif → Check
new_name earlier path d = typed (named earlier path) path (as_str d)

-- ---- a text that spells an act, for so many colours, a size and these motifs

unfoldable pub act : ℕ → Size → List NamedMotif → Check
act colours size motifs path d = typed (λ text. spelled BadAct path (parsed_act text colours size motifs)) path (as_str d)

unfoldable pub act_in : ℕ → Size → List NamedMotif → Data → Act
act_in colours size motifs d = option_map_or (λ text. result_unwrap_or (parsed_act text colours size motifs) Commit) (as_str d) Commit

-- ---- the opening paper: a colour of the book, or a text that is not empty, which names the file of an image

abbrev pub opening_by : List SessionFault → List ℕ → Option (List ℕ) → List SessionFault
opening_by other path None = other
opening_by other path (Some text) = if length text == 0 then fault path Name else []

unfoldable pub opening : ℕ → Check
opening colours path d = opening_by (whole 0 (colours - 1) path d) path (as_str d)

abbrev pub image_or : ℕ → Option (List ℕ) → Opening
image_or colour None = Plain colour
image_or colour (Some text) = Image text

unfoldable pub opening_in : Data → Opening
opening_in d = image_or (number d) (as_str d)
