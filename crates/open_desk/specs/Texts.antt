-- The texts of the refusals. The words are this project's own.
use Rattle.std.specs.Prelude.{ℕ, codes, decimal, List, [], ◌∷◌}
use Rattle.std.specs.List.{concat}
use Rattle.open_desk.specs.declared.closed.CloseRefusal.{CloseRefusal}
use Rattle.open_desk.specs.declared.closed.CloseRefusal.TheVariants.{Differs as Differing}
use Rattle.open_desk.specs.declared.refusal.ActRefusal.{ActRefusal}
use Rattle.open_desk.specs.declared.refusal.ActRefusal.TheVariants.{Full, Differs, OutOfMemory}

abbrev pub act_text : ActRefusal → List ℕ
act_text (Full kept) = concat (codes "pass full with " ∷ decimal kept ∷ codes "" ∷ [])
act_text (Differs mine found) = concat (codes "receipts " ∷ decimal mine ∷ codes " entries " ∷ decimal found ∷ codes "" ∷ [])
act_text OutOfMemory = concat (codes "out of memory" ∷ [])

abbrev pub close_text : CloseRefusal → List ℕ
close_text (Differing core caller told kept) = concat (codes "caller " ∷ decimal caller ∷ codes " place " ∷ decimal told.place ∷ codes " differs" ∷ [])
