-- Why a core is not started.
use Rattle.std.specs.Prelude.{◌≡◌, ⊤, Some}
use Rattle.point_paper.specs.Papers.{PaperCells}
use Rattle.draft_model.specs.declared.design.Design.{Design}
use Rattle.version_journal.specs.Journals.{float_kept}
use Rattle.studio_core.specs.declared.refusal.StartRefusal.{StartRefusal}
use Rattle.studio_core.specs.declared.refusal.StartRefusal.TheVariants.{OpeningFloat, OutOfMemory}

-- a float is told where the opening's bound paper keeps it as its first one; out of memory says nothing of the opening
abbrev pub IsStartRefusal : Design → PaperCells → StartRefusal → Type 0
IsStartRefusal design opening (OpeningFloat float) = float_kept design opening ≡ Some float
IsStartRefusal design opening OutOfMemory = ⊤
