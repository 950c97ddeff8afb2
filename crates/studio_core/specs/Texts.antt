-- The text of a refusal. The words are this project's own.
use Rattle.std.specs.Prelude.{ℕ, List, ◌++◌, codes}
use Rattle.mill_base.specs.Texts.{memory_text}
use Rattle.draft_model.specs.Texts.{float_text}
use Rattle.studio_core.specs.declared.refusal.StartRefusal.{StartRefusal}
use Rattle.studio_core.specs.declared.refusal.StartRefusal.TheVariants.{OpeningFloat, OutOfMemory}

abbrev pub refusal_text : StartRefusal → List ℕ
refusal_text (OpeningFloat float) = codes "opening " ++ float_text float
refusal_text OutOfMemory = memory_text (record {})
