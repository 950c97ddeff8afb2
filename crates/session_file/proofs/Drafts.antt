-- Faults of a draft that stand behind one another.
use Rattle.std.proofs.Common.{◌≡◌, List, [], ◌++◌}
use Rattle.session_rules.specs.declared.fault.SessionFault.{SessionFault}
use Rattle.session_rules.specs.declared.fault.SessionRefusal.{SessionRefusal}
use Rattle.session_rules.specs.Faults.{TellsFirst}
use Rattle.session_rules.proofs.lemmas.Told.{told_later}

pub none_of_three : (xs ys zs : List SessionFault) → xs ≡ [] → ys ≡ [] → zs ≡ [] → xs ++ (ys ++ zs) ≡ []
none_of_three xs ys zs e f g = rw (e, f, g)

pub told_last : (xs ys zs : List SessionFault) (r : SessionRefusal) → xs ≡ [] → ys ≡ [] → TellsFirst zs r → TellsFirst (xs ++ (ys ++ zs)) r
told_last xs ys zs r e f h = told_later xs (ys ++ zs) r e (told_later ys zs r f h)
