-- Faults in their order, and which of them is told.
use Rattle.std.specs.Prelude.{◌≡◌, ℕ, List, [], ◌∷◌, Some, slice_get, Result, MatchResult}
use Rattle.session_rules.specs.declared.fault.SessionFault.{SessionFault}
use Rattle.session_rules.specs.declared.fault.SessionFaultKind.{SessionFaultKind}
use Rattle.session_rules.specs.declared.fault.SessionRefusal.{SessionRefusal}
use Rattle.session_rules.specs.declared.fault.SessionRefusal.TheVariants.{Fault, ReadFault, TooLong, OutOfMemory}

-- one fault of a kind, at a path
abbrev pub fault : List ℕ → SessionFaultKind → List SessionFault
fault path kind = record { path = path; kind = kind } ∷ []

-- a refusal tells the first of the faults, or that memory was refused; no rule of a document tells of a file
abbrev pub IsFirst : List SessionFault → SessionRefusal → Type 0
IsFirst faults (Fault broken) = slice_get faults 0 ≡ Some broken
IsFirst faults (ReadFault name) = ⊥
IsFirst faults (TooLong name) = ⊥
IsFirst faults OutOfMemory = Unit {0}

pub record TellsFirst (faults : List SessionFault) (refusal : SessionRefusal) : Type 0 where
  pub first : IsFirst faults refusal

-- a value was read by rules: none is broken and it is the wanted one, or the first fault is told
abbrev pub Reads : {A : Type 0} → List SessionFault → A → Result A SessionRefusal → Type 0
Reads faults wanted result = MatchResult result (λ value. (faults ≡ []) × (value ≡ wanted)) (TellsFirst faults)

-- rules that give no value were tried
abbrev pub Keeps : {A : Type 0} → List SessionFault → Result A SessionRefusal → Type 0
Keeps faults result = MatchResult result (λ _. faults ≡ []) (TellsFirst faults)
