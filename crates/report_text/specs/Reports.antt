-- What the studio prints on standard output: the report of a session's run, and the lines of a check and of a trial. Each line ends with one
-- line feed, and numbers are decimal. All of it is this project's own.
use Rattle.std.specs.Prelude.{ℕ, ◌+◌, ◌==◌, Bool, true, false, codes, List, [], ◌∷◌, ◌++◌, length, map, count_by, sum_by, slice_index_or, Option, Some, None, if◌then◌else◌}
use Rattle.std.specs.Fmt.{decimal}
use Rattle.hex.specs.Hex.{encode_lower}
use Rattle.mill_base.specs.declared.face.Face.{Face}
use Rattle.mill_base.specs.declared.face.Face.TheVariants.{Up, Down}
use Rattle.draft_model.specs.Cloths.{ClothCells}
use Rattle.draft_model.specs.Texts.{float_text}
use Rattle.draft_model.specs.declared.design.Design.{Design}
use Rattle.version_journal.specs.Entries.{is_accepted}
use Rattle.version_journal.specs.declared.entry.Entry.{Entry}
use Rattle.version_journal.specs.declared.entry.Reply.{Reply}
use Rattle.version_journal.specs.declared.entry.Reply.TheVariants.{Painted, Accepted, Refused}
use Rattle.version_journal.specs.declared.run_log.Repeat.{Repeat}
use Rattle.version_journal.specs.declared.run_log.RunLog.{RunLog}
use Rattle.session_file.specs.Counts.{told}
use Rattle.session_file.specs.Plans.{acts_in}
use Rattle.session_file.specs.declared.session.Session.{Session}

-- the lines of each item with its number, which is counted from n on
abbrev pub lines_from : {X : Type 0} → ℕ → (ℕ → X → List ℕ) → List X → List ℕ
lines_from n lines [] = []
lines_from n lines (x ∷ xs) = lines n x ++ lines_from (n + 1) lines xs

-- a word and a number behind it
abbrev pub numbered : List ℕ → ℕ → List ℕ
numbered word number = word ++ decimal number

-- `columns C picks P ends E hooks H`
abbrev pub design_text : Design → List ℕ
design_text design = numbered (codes "columns ") design.size.columns ++ numbered (codes " picks ") design.size.picks
    ++ numbered (codes " ends ") (length design.tie.ends) ++ numbered (codes " hooks ") design.casting.hooks

-- REPLY: `paint`, `accepted V` or `refused FLOAT`
abbrev pub reply_text : Reply → List ℕ
reply_text Painted = codes "paint"
reply_text (Accepted version) = numbered (codes "accepted ") version
reply_text (Refused run) = codes "refused " ++ float_text run

-- `act A painter I number N REPLY`, where A counts the entries of the session from 0
abbrev pub act_line : ℕ → Entry → List ℕ
act_line act entry = numbered (codes "act ") act ++ numbered (codes " painter ") entry.painter ++ numbered (codes " number ") entry.number
    ++ codes " " ++ reply_text entry.reply ++ codes "\n"

-- the line of an act in its shift
abbrev pub act_in_shift : ℕ → ℕ → Entry → List ℕ
act_in_shift shift act entry = if entry.shift == shift then act_line act entry else []

-- the acts of a shift, in the order of the log
abbrev pub act_lines : ℕ → List Entry → List ℕ
act_lines shift entries = lines_from 0 (act_in_shift shift) entries

-- `loom L repeat R version V sha256 HEX`, with ` down` behind the number of a loom of face down; R counts the loom's repeats over the
-- session from 0, and HEX is the digest in 64 lower-case digits
abbrev pub face_word : Face → List ℕ
face_word Up = codes " repeat "
face_word Down = codes " down repeat "

abbrev pub loom_text : Face → ℕ → ℕ → List ℕ
loom_text face loom number = numbered (codes "loom ") loom ++ numbered (face_word face) number

abbrev pub digest_text : List ℕ → List ℕ
digest_text digest = codes " sha256 " ++ encode_lower digest ++ codes "\n"

abbrev pub loom_line : Face → ℕ → ℕ → Repeat → List ℕ
loom_line face loom number woven = loom_text face loom number ++ numbered (codes " version ") woven.version ++ digest_text woven.digest

-- `row p TEXT`, with `#` for a lifted end and `.` for an unlifted one, end 0 first
abbrev pub end_mark : Bool → ℕ
end_mark lifted = if lifted then 35 else 46

abbrev pub row_text : List Bool → List ℕ
row_text row = map end_mark row

abbrev pub row_line : ℕ → List Bool → List ℕ
row_line pick row = numbered (codes "row ") pick ++ codes " " ++ row_text row ++ codes "\n"

-- a line for each row, from pick 0 on; where the rows are not kept there is none
abbrev pub cloth_lines : List (List Bool) → List ℕ
cloth_lines rows = lines_from 0 row_line rows

abbrev pub row_lines : Option ClothCells → List ℕ
row_lines None = []
row_lines (Some cloth) = cloth_lines cloth.rows

-- the line of a repeat in its shift, followed by its rows where they are kept
abbrev pub repeat_in_shift : ℕ → Face → ℕ → ℕ → Repeat → List ℕ
repeat_in_shift shift face loom number woven = if woven.shift == shift then loom_line face loom number woven ++ row_lines woven.rows else []

-- the repeats of a loom in a shift, in the order of the log
abbrev pub loom_lines : ℕ → Face → ℕ → List Repeat → List ℕ
loom_lines shift face loom repeats = lines_from 0 (repeat_in_shift shift face loom) repeats

-- the repeats of all looms in a shift, loom by loom
abbrev pub lines_of_looms : ℕ → List Face → List (List Repeat) → List ℕ
lines_of_looms shift faces looms = lines_from 0 (λ loom repeats. loom_lines shift (slice_index_or faces loom Up) loom repeats) looms

-- the lines of a shift: its number, its acts, and the repeats of each loom
abbrev pub shift_lines : Session → RunLog → ℕ → List ℕ
shift_lines session log shift = numbered (codes "shift ") shift ++ codes "\n" ++ act_lines shift log.entries ++ lines_of_looms shift session.faces log.looms

abbrev pub lines_of_shifts : Session → RunLog → List ℕ
lines_of_shifts session log = lines_from 0 (λ shift _. shift_lines session log shift) session.shifts

-- the number of the last version: each accepted commit made the next
abbrev pub last_version : List Entry → ℕ
last_version entries = count_by (λ entry. is_accepted entry.reply) entries

-- the report: the studio's first version of this format, the design, the shifts one after another, and the number of the last version
abbrev pub report : Session → RunLog → List ℕ
report session log = codes "studio 1\n" ++ codes "design " ++ design_text session.design ++ codes "\n" ++ lines_of_shifts session log
    ++ numbered (codes "end versions ") (last_version log.entries) ++ codes "\n"

-- `ok columns C picks P ends E hooks H looms L shifts S acts A`, where A counts all acts (those over 64 bits as the greatest of them)
abbrev pub check_line : Session → List ℕ
check_line session = codes "ok " ++ design_text session.design ++ numbered (codes " looms ") session.looms
    ++ numbered (codes " shifts ") (length session.shifts) ++ numbered (codes " acts ") (told (acts_in session.shifts)) ++ codes "\n"

-- the reply to a commit that kept a float
abbrev pub is_refused : Reply → Bool
is_refused Painted = false
is_refused (Accepted version) = false
is_refused (Refused run) = true

abbrev pub refused_commits : List Entry → ℕ
refused_commits entries = count_by (λ entry. is_refused entry.reply) entries

-- `trial N versions V refused R repeats W sha256 HEX`: the number of the last version, the refused commits, the repeats of all looms, and
-- a digest in 64 lower-case digits
abbrev pub trial_line : ℕ → RunLog → List ℕ → List ℕ
trial_line number log digest = numbered (codes "trial ") number ++ numbered (codes " versions ") (last_version log.entries)
    ++ numbered (codes " refused ") (refused_commits log.entries) ++ numbered (codes " repeats ") (sum_by length log.looms) ++ digest_text digest
