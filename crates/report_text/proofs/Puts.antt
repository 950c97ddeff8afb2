-- Lines that are put whole or in part.
use Rattle.std.proofs.Common.{◌≡◌, ℕ, List, Option, Result, Ok, Err, ◌⊎◌, inl, inr, sym, subst}
use Rattle.mill_base.specs.Causes.{HasCause, Rose, faults_after}
use Rattle.mill_io.specs.Takes.{Took, TookAll, TookPart}

-- a line was put whole and the count stays, or the count rose and a part of it was put
pub all_or_part : {T E : Type 0} (taken now : Option (List ℕ)) (before after : ℕ) (piece : List ℕ) (r : Result T E) → after ≡ faults_after before r
    → HasCause before after r → Took taken now piece r → (TookAll taken now piece × (after ≡ before)) ⊎ (Rose before after × TookPart taken now piece)
all_or_part taken now before after piece (Ok u) stays cause took = inl (took, stays)
all_or_part taken now before after piece (Err e) stays cause took = inr (cause.failed, took)

-- the bytes that were put are the wanted ones
pub took_wanted : {T E : Type 0} (before now : Option (List ℕ)) (put wanted : List ℕ) (r : Result T E) → wanted ≡ put → Took before now put r → Took before now wanted r
took_wanted before now put wanted r same took = subst (λ (l : List ℕ). Took before now l r) (sym same) took
