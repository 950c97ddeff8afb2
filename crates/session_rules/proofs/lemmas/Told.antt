-- The first of faults that stand one after another.
use Rattle.std.proofs.Common.{◌≡◌, List, [], ◌∷◌, ◌++◌}
use Rattle.session_rules.specs.declared.fault.SessionFault.{SessionFault}
use Rattle.session_rules.specs.declared.fault.SessionRefusal.{SessionRefusal}
use Rattle.session_rules.specs.declared.fault.SessionRefusal.TheVariants.{Fault, ReadFault, TooLong, OutOfMemory}
use Rattle.session_rules.specs.Faults.{TellsFirst}

-- the first fault of a rule is the first of all that follow it
pub told_here : (xs ys : List SessionFault) (r : SessionRefusal) → TellsFirst xs r → TellsFirst (xs ++ ys) r
told_here xs ys OutOfMemory h = record { first = tt }
told_here xs ys (ReadFault name) h = absurd (h.first)
told_here xs ys (TooLong name) h = absurd (h.first)
told_here [] ys (Fault f) h = absurd (cc (h.first))
told_here (x ∷ xs) ys (Fault f) h = record { first = h.first }

-- behind a rule without a fault the first one is that of the next rules
pub told_later : (xs ys : List SessionFault) (r : SessionRefusal) → xs ≡ [] → TellsFirst ys r → TellsFirst (xs ++ ys) r
told_later xs ys r e h = rw e h
