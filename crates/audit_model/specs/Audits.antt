-- When a report passes, and the first line that breaks it.
use Rattle.std.specs.Prelude.{◌≡◌, ℕ, ◌+◌, ◌<◌, ◌≤◌, ◌==◌, List, [], ◌∷◌, ◌++◌, length, take, if◌then◌else◌}
use Rattle.version_journal.specs.declared.run_log.RunLog.{RunLog}
use Rattle.session_file.specs.declared.session.Session.{Session}
use Rattle.shift_model.specs.Logs.{Legal}
use Rattle.report_text.specs.Reports.{report}

-- the second list begins with the first
abbrev pub Begins : {X : Type 0} → List X → List X → Type 0
Begins front xs = (rest : List _) × (xs ≡ front ++ rest)

-- the bytes are a prefix of the report of a legal log
abbrev pub Passes : Session → List ℕ → Type 0
Passes session bytes = (log : RunLog) × Legal session log × Begins bytes (report session log)

-- the bytes, cut after each line feed; a rest is a line
abbrev pub with_byte : ℕ → List (List ℕ) → List (List ℕ)
with_byte b [] = (b ∷ []) ∷ []
with_byte b (line ∷ lines) = (b ∷ line) ∷ lines

abbrev pub lines_of : List ℕ → List (List ℕ)
lines_of [] = []
lines_of (b ∷ bytes) = if b == 10 then (b ∷ []) ∷ lines_of bytes else with_byte b (lines_of bytes)

abbrev pub joined : List (List ℕ) → List ℕ
joined [] = []
joined (line ∷ lines) = line ++ joined lines

-- the first k lines of the bytes
abbrev pub first_lines : ℕ → List ℕ → List ℕ
first_lines k bytes = joined (take k (lines_of bytes))

-- the bytes are the report of this legal log
abbrev pub IsYes : Session → List ℕ → RunLog → Type 0
IsYes session bytes log = Legal session log × (report session log ≡ bytes)

-- The bytes are no report of a legal log, and k is the least number such that the lines 0 to k are no prefix of one; where there is none, k
-- is the number of lines.
pub record IsNo (session : Session) (bytes : List ℕ) (k : ℕ) : Type 0 where
  pub none : (log : RunLog) → IsYes session bytes log → ⊥
  pub within : k ≤ length (lines_of bytes)
  pub least : (j : ℕ) → j < k → Passes session (first_lines (j + 1) bytes)
  pub breaks : k < length (lines_of bytes) → Passes session (first_lines (k + 1) bytes) → ⊥
