-- Lines of a report by their parts.
use Rattle.std.specs.Prelude.{ℕ, codes, List, ◌++◌}
use Rattle.mill_base.specs.declared.face.Face.{Face}
use Rattle.report_text.specs.Reports.{digest_text, loom_text, numbered}

-- the line of an act up to its reply
abbrev pub act_head : ℕ → ℕ → ℕ → List ℕ
act_head act painter number = numbered (codes "act ") act ++ numbered (codes " painter ") painter ++ numbered (codes " number ") number ++ codes " "

-- the line of a repeat, by the version and the digest
abbrev pub loom_line_by : Face → ℕ → ℕ → ℕ → List ℕ → List ℕ
loom_line_by face loom number version digest = loom_text face loom number ++ numbered (codes " version ") version ++ digest_text digest
