-- The text of a casting fault.
use Rattle.std.specs.Prelude.{ℕ, codes, decimal, List, [], ◌∷◌}
use Rattle.std.specs.List.{concat}
use Rattle.casting_out.specs.declared.fault.CastingFault.{CastingFault}
use Rattle.casting_out.specs.declared.fault.CastingFault.TheVariants.{HookRange, CastTwice, HooksShort, OutOfMemory}

abbrev pub casting_text : CastingFault → List ℕ
casting_text (HookRange hook) = concat (codes "hook " ∷ decimal hook ∷ codes " out of range" ∷ [])
casting_text (CastTwice hook) = concat (codes "hook " ∷ decimal hook ∷ codes " cast twice" ∷ [])
casting_text (HooksShort live columns) = concat (decimal live ∷ codes " hooks for " ∷ decimal columns ∷ codes " columns" ∷ [])
casting_text OutOfMemory = concat (codes "out of memory" ∷ [])
