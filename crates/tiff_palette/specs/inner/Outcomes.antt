-- How a function that tries some rules answers.
use Rattle.std.specs.Prelude.{◌≡◌, List, [], Some, slice_get, Result, MatchResult}
use Rattle.tiff_palette.specs.declared.fault.TiffFault.{TiffFault}

-- the first fault is told
pub record TellsFirst (faults : List TiffFault) (fault : TiffFault) : Type 0 where
  pub first : slice_get faults 0 ≡ Some fault

-- there is no fault and this is the wanted value, or the first fault is told
abbrev pub Reads : {A : Type 0} → List TiffFault → A → Result A TiffFault → Type 0
Reads faults wanted result = MatchResult result (λ value. (faults ≡ []) × (value ≡ wanted)) (TellsFirst faults)

-- there is no fault, or the first is told
abbrev pub Keeps : {A : Type 0} → List TiffFault → Result A TiffFault → Type 0
Keeps faults result = MatchResult result (λ _. faults ≡ []) (TellsFirst faults)
