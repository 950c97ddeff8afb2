-- The words of the command line.
use Rattle.std.specs.Prelude.{ℕ, ◌==◌, Bool, true, false, not, ◌&&◌, bytes_eq, codes, List, [], ◌∷◌, length, slice_index_or, Option, Some, None, option_map, if◌then◌else◌}
use Rattle.mill_base.specs.Words.{number_of}
use Rattle.mill_base.specs.declared.face.Face.TheVariants.{Up, Down}
use Rattle.studio_run.specs.declared.command.Command.{Command}
use Rattle.studio_run.specs.declared.command.Command.TheVariants.{Weave, Check, Draw, Paper, Cards, Lift, Trial}

abbrev pub is_given : List ℕ → Bool
is_given word = not (length word == 0)

-- a file that is written has another name than one that is read
abbrev pub is_other : List ℕ → List ℕ → Bool
is_other written read = not (bytes_eq written read)

-- `weave SESSION`, `check SESSION`, `trial N`
abbrev pub command_of_two : List ℕ → List ℕ → Option Command
command_of_two verb name =
    if bytes_eq verb (codes "weave") then Some Weave
    else if bytes_eq verb (codes "check") then Some Check
    else if bytes_eq verb (codes "trial") then option_map (λ n. Trial n) (number_of name)
    else None

-- `draw SESSION OUT`, `paper SESSION OUT`, `cards SESSION OUT`
abbrev pub command_of_three : List ℕ → Option Command
command_of_three verb =
    if bytes_eq verb (codes "draw") then Some Draw
    else if bytes_eq verb (codes "paper") then Some Paper
    else if bytes_eq verb (codes "cards") then Some (Cards Up)
    else None

-- `lift SESSION CHAIN OUT`
abbrev pub lift_of : List ℕ → List ℕ → List ℕ → Option Command
lift_of session chain out = if is_other out session && is_other out chain then Some Lift else None

-- `cards SESSION OUT down`
abbrev pub cards_of_texts : List ℕ → List ℕ → List ℕ → Option Command
cards_of_texts session out last = if bytes_eq last (codes "down") && is_other out session then Some (Cards Down) else None

abbrev pub command_of_four : List ℕ → List ℕ → List ℕ → List ℕ → Option Command
command_of_four verb session second last =
    if bytes_eq verb (codes "lift") then lift_of session second last
    else if bytes_eq verb (codes "cards") then cards_of_texts session second last
    else None

-- What the words ask for: exactly the words of a command, none of them empty, and what is written is none of the files that the words have read.
abbrev pub command_of : List (List ℕ) → Option Command
command_of (verb ∷ name ∷ []) = if is_given name then command_of_two verb name else None
command_of (verb ∷ name ∷ second ∷ []) = if is_given name && is_given second && is_other second name then command_of_three verb else None
command_of (verb ∷ name ∷ second ∷ last ∷ []) = if is_given name && is_given second && is_given last then command_of_four verb name second last else None
command_of words = None

-- the names of files among the words: of the session, of the chain that `lift` reads, and of what is written
abbrev pub word_at : ℕ → List (List ℕ) → List ℕ
word_at k words = slice_index_or words k []

abbrev pub session_name : List (List ℕ) → List ℕ
session_name words = word_at 1 words

abbrev pub chain_name : List (List ℕ) → List ℕ
chain_name words = word_at 2 words

-- the name of the file that a command writes; the output of the others goes to the sink
abbrev pub file_name : Command → List (List ℕ) → Option (List ℕ)
file_name Weave words = None
file_name Check words = None
file_name Draw words = Some (word_at 2 words)
file_name Paper words = Some (word_at 2 words)
file_name (Cards face) words = Some (word_at 2 words)
file_name Lift words = Some (word_at 3 words)
file_name (Trial n) words = None

-- a trial reads no file
abbrev pub reads_file : Command → Bool
reads_file Weave = true
reads_file Check = true
reads_file Draw = true
reads_file Paper = true
reads_file (Cards face) = true
reads_file Lift = true
reads_file (Trial n) = false

-- a command that runs a session with its looms, so that there is a log
abbrev pub runs_looms : Command → Bool
runs_looms Weave = true
runs_looms Check = false
runs_looms Draw = false
runs_looms Paper = false
runs_looms (Cards face) = false
runs_looms Lift = false
runs_looms (Trial n) = true

abbrev pub is_plain : Option Command → Bool
is_plain None = true
is_plain (Some command) = not (runs_looms command)
