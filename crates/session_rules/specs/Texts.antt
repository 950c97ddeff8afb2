-- What is told of a session fault, and of a session that was not read. The words are this project's own.
use Rattle.std.specs.Prelude.{ℕ, codes, decimal, List, [], ◌∷◌, ◌++◌}
use Rattle.std.specs.Fmt.{signed_decimal}
use Rattle.std.specs.List.{concat}
use Rattle.mill_base.specs.Texts.{memory_text}
use Rattle.weave_book.specs.Texts.{weave_text}
use Rattle.casting_out.specs.Texts.{casting_text}
use Rattle.harness_ties.specs.Texts.{tie_text}
use Rattle.strokes.specs.Texts.{act_text, motif_text}
use Rattle.tiff_palette.specs.Texts.{tiff_text}
use Rattle.session_rules.specs.declared.fault.SessionFault.{SessionFault}
use Rattle.session_rules.specs.declared.fault.SessionFaultKind.{SessionFaultKind}
use Rattle.session_rules.specs.declared.fault.SessionFaultKind.TheVariants.{NotToml, Missing, Kind, Choice, Range, Count, Name, Limit, UnknownKey, Weave, Casting, Tie, Motif, Act, Image, ImageSize, ImageColour}
use Rattle.session_rules.specs.declared.fault.SessionRefusal.{SessionRefusal}
use Rattle.session_rules.specs.declared.fault.SessionRefusal.TheVariants.{Fault, ReadFault, TooLong, OutOfMemory}

-- the fault of a file that is no image is told as one of an image
abbrev pub lead_text : SessionFaultKind → List ℕ
lead_text (Image broken) = codes "image "
lead_text _ = []

abbrev pub rest_text : SessionFaultKind → List ℕ
rest_text NotToml = concat (codes "not toml" ∷ [])
rest_text Missing = concat (codes "missing" ∷ [])
rest_text Kind = concat (codes "wrong kind" ∷ [])
rest_text Choice = concat (codes "unknown word" ∷ [])
rest_text (Range value least greatest) = concat ([] ∷ signed_decimal value ∷ codes " not in " ∷ signed_decimal least ∷ codes " to " ∷ signed_decimal greatest ∷ [] ∷ [])
rest_text (Count found least greatest) = concat ([] ∷ decimal found ∷ codes " items, not " ∷ decimal least ∷ codes " to " ∷ decimal greatest ∷ [] ∷ [])
rest_text Name = concat (codes "bad name" ∷ [])
rest_text (Limit kept found) = concat ([] ∷ decimal found ∷ codes " over " ∷ decimal kept ∷ [] ∷ [])
rest_text UnknownKey = concat (codes "unknown key" ∷ [])
rest_text (Weave broken) = weave_text broken
rest_text (Casting broken) = casting_text broken
rest_text (Tie broken) = tie_text broken
rest_text (Motif broken) = motif_text broken
rest_text (Act broken) = act_text broken
rest_text (Image broken) = tiff_text broken
rest_text (ImageSize columns picks) = concat (codes "image is " ∷ decimal columns ∷ codes " by " ∷ decimal picks ∷ [] ∷ [])
rest_text (ImageColour column pick found) = concat (codes "image colour " ∷ decimal found ∷ codes " at " ∷ decimal column ∷ codes " " ∷ decimal pick ∷ [] ∷ [])

abbrev pub kind_text : SessionFaultKind → List ℕ
kind_text kind = lead_text kind ++ rest_text kind

-- the path of what breaks the rule, and how
abbrev pub fault_text : SessionFault → List ℕ
fault_text broken = broken.path ++ codes ": " ++ kind_text broken.kind

abbrev pub refusal_text : SessionRefusal → List ℕ
refusal_text (Fault broken) = fault_text broken
refusal_text (ReadFault name) = codes "cannot read " ++ name
refusal_text (TooLong name) = codes "too long: " ++ name
refusal_text OutOfMemory = memory_text (record {})
