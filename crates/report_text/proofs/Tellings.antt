-- The words of causes in parts.
use Rattle.std.proofs.Common.{◌≡◌, ℕ, List, [], ◌∷◌, ◌++◌, codes, refl, sym, ap, ◌∙◌, append_assoc, append-nil}
use Rattle.std.specs.List.{concat}
use Rattle.mill_io.specs.Names.{shown_name}
use Rattle.session_rules.specs.Texts.{kind_text}
use Rattle.session_rules.specs.declared.fault.SessionFault.{SessionFault}
use Rattle.session_rules.specs.declared.fault.SessionFaultKind.{SessionFaultKind}
use Rattle.session_rules.specs.declared.fault.SessionFaultKind.TheVariants.{NotToml, Missing, Kind, Choice, Range, Count, Name, Limit, UnknownKey, Weave, Casting, Tie, Motif, Act, Image, ImageSize, ImageColour}
use Rattle.report_text.specs.Causes.{line, told_fault, words_of_cause}
use Rattle.report_text.specs.declared.cause.Cause.{Cause}
use Rattle.report_text.specs.declared.cause.Cause.TheVariants.{Done, Usage, Session, OpeningFloat, OutOfMemory, ReadFault, WriteFault, TooLong, Chain}

-- where not all was done there is a line
pub line_told : (cause : Cause) → (cause ≡ Done → ⊥) → line cause ≡ codes "studio: " ++ words_of_cause shown_name cause ++ codes "\n"
line_told Done other = absurd (other refl)
line_told Usage other = refl
line_told (Session fault) other = refl
line_told (OpeningFloat run) other = refl
line_told OutOfMemory other = refl
line_told (ReadFault name) other = refl
line_told WriteFault other = refl
line_told (TooLong name) other = refl
line_told (Chain fault) other = refl

-- a fault of a document is told with its path
pub told_with_path : (told : List ℕ → List ℕ) (kind : SessionFaultKind) (fault : SessionFault) → (kind ≡ NotToml → ⊥)
    → told_fault told kind fault ≡ codes "session " ++ told fault.path ++ codes ": " ++ kind_text fault.kind
told_with_path told NotToml fault other = absurd (other refl)
told_with_path told Missing fault other = refl
told_with_path told Kind fault other = refl
told_with_path told Choice fault other = refl
told_with_path told (Range value least greatest) fault other = refl
told_with_path told (Count found least greatest) fault other = refl
told_with_path told Name fault other = refl
told_with_path told (Limit kept found) fault other = refl
told_with_path told UnknownKey fault other = refl
told_with_path told (Weave broken) fault other = refl
told_with_path told (Casting broken) fault other = refl
told_with_path told (Tie broken) fault other = refl
told_with_path told (Motif broken) fault other = refl
told_with_path told (Act broken) fault other = refl
told_with_path told (Image broken) fault other = refl
told_with_path told (ImageSize columns picks) fault other = refl
told_with_path told (ImageColour column pick found) fault other = refl

pub told_parts : (first path colon lead rest : List ℕ) → concat (first ∷ path ∷ (colon ++ lead) ∷ rest ∷ []) ≡ first ++ path ++ colon ++ (lead ++ rest)
told_parts first path colon lead rest = simp (append_assoc, append-nil)

-- the parts of a line, of which the first two are joined to the words
pub line_parts : (studio before name between phrase last : List ℕ)
    → concat (studio ∷ before ∷ []) ++ name ++ between ++ phrase ++ last ≡ studio ++ concat (before ∷ name ∷ between ∷ phrase ∷ []) ++ last
line_parts studio before name between phrase last = simp (append_assoc, append-nil)
