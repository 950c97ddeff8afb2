-- What each command puts out or writes.
use Rattle.std.specs.Prelude.{◌≡◌, ℕ, Bool, List, map, Option, Some, None}
use Rattle.mill_base.specs.declared.face.Face.{Face}
use Rattle.mill_io.specs.Files.{File}
use Rattle.point_paper.specs.Papers.{PaperCells}
use Rattle.tiff_palette.specs.Written.{tiff_of}
use Rattle.draft_model.specs.Drawdowns.{drawdown}
use Rattle.card_image.specs.Chains.{Chain}
use Rattle.card_image.specs.Faults.{end_fault}
use Rattle.card_image.specs.Sets.{CardDesign, design_by}
use Rattle.cloth_files.specs.Cards.{cloth_of_cards, paper_cards}
use Rattle.cloth_files.specs.Images.{cloth_image, paper_image}
use Rattle.version_journal.specs.declared.run_log.RunLog.{RunLog}
use Rattle.session_file.specs.Readings.{HeldIn}
use Rattle.session_file.specs.Sessions.{Denotes}
use Rattle.session_file.specs.Trials.{trial}
use Rattle.session_file.specs.declared.session.Session.{Session}
use Rattle.loom_threads.specs.Woven.{digest_of}
use Rattle.report_text.specs.Reports.{check_line, report, trial_line}
use Rattle.shift_model.specs.Logs.{Legal, named_act}
use Rattle.shift_model.specs.Plans.{IsNewest, plain_order, plain_versions}
use Rattle.studio_run.specs.declared.command.Command.{Command}
use Rattle.studio_run.specs.declared.command.Command.TheVariants.{Weave, Check, Draw, Paper, Cards, Lift, Trial}
use Rattle.studio_run.specs.Commands.{chain_name, session_name}

-- the session file of the words is there, not too long, and its bytes denote this session, beside the files
abbrev pub IsOfFile : List (List ℕ) → Option (List File) → Session → Type 0
IsOfFile words files session = (bytes : List ℕ) × HeldIn files (session_name words) bytes × Denotes (HeldIn files) bytes session

-- the session that a command is about: that of its file, or the trial of its number
abbrev pub IsAbout : Command → List (List ℕ) → Option (List File) → Session → Type 0
IsAbout Weave words files session = IsOfFile words files session
IsAbout Check words files session = IsOfFile words files session
IsAbout Draw words files session = IsOfFile words files session
IsAbout Paper words files session = IsOfFile words files session
IsAbout (Cards face) words files session = IsOfFile words files session
IsAbout Lift words files session = IsOfFile words files session
IsAbout (Trial n) words files session = session ≡ trial n

-- what the cards of a session are for
abbrev pub cards_of : Session → CardDesign
cards_of session = design_by session.design.casting session.design.size.picks

-- a paper of the last version, in plain order, has the property
abbrev pub OfLast : Session → (PaperCells → Type 0) → Type 0
OfLast session P = (paper : PaperCells) × IsNewest (plain_versions session) paper × P paper

-- The bytes are the output of a command about a session.
abbrev pub IsOutput : Command → List (List ℕ) → Option (List File) → Session → Option RunLog → List ℕ → Type 0
IsOutput Weave words files session run_log bytes = (log : RunLog) × (run_log ≡ Some log) × Legal session log × (bytes ≡ report session log)
IsOutput Check words files session run_log bytes = (run_log ≡ None) × (bytes ≡ check_line session)
IsOutput Draw words files session run_log bytes =
    (run_log ≡ None) × OfLast session (λ paper. bytes ≡ tiff_of (cloth_image (drawdown session.design paper)))
IsOutput Paper words files session run_log bytes =
    (run_log ≡ None) × OfLast session (λ paper. bytes ≡ tiff_of (paper_image session.colour_map paper))
IsOutput (Cards face) words files session run_log bytes =
    (run_log ≡ None) × OfLast session (λ paper. Chain (cards_of session) bytes face (paper_cards session.design face paper))
IsOutput Lift words files session run_log bytes =
    (run_log ≡ None) × (chain : List ℕ) × HeldIn files (chain_name words) chain × (end_fault (cards_of session) chain ≡ None)
    × (face : Face) × (cards : List (List Bool)) × Chain (cards_of session) chain face cards
    × (bytes ≡ tiff_of (cloth_image (cloth_of_cards session.design face cards)))
IsOutput (Trial n) words files session run_log bytes =
    (log : RunLog) × (run_log ≡ Some log) × Legal session log × (map (named_act session) log.entries ≡ plain_order session)
    × OfLast session (λ paper. bytes ≡ trial_line n log (digest_of (drawdown session.design paper)))
