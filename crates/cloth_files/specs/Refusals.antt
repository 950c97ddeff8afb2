-- Why a chain was not lifted, and the text of it.
use Rattle.std.specs.Prelude.{◌≡◌, ℕ, List, Some}
use Rattle.mill_base.specs.Texts.{memory_text}
use Rattle.card_image.specs.Sets.{CardDesign}
use Rattle.card_image.specs.Faults.{end_fault}
use Rattle.card_image.specs.Texts.{chain_text}
use Rattle.cloth_files.specs.declared.lifting.LiftRefusal.{LiftRefusal}
use Rattle.cloth_files.specs.declared.lifting.LiftRefusal.TheVariants.{Chain, OutOfMemory}

-- a refusal tells the first fault of the bytes as the chain of a design, or that memory was refused, which says nothing of the bytes
abbrev pub TellsFault : CardDesign → List ℕ → LiftRefusal → Type 0
TellsFault design bytes (Chain fault) = end_fault design bytes ≡ Some fault
TellsFault design bytes OutOfMemory = Unit {0}

abbrev pub lift_text : LiftRefusal → List ℕ
lift_text (Chain fault) = chain_text fault
lift_text OutOfMemory = memory_text (record {})
