-- The pages that the program puts out. Their words are this project's own, and stand in the code alone.
use Rattle.std.specs.Prelude.{ℕ, bytes_eq, codes, List, [], ◌∷◌, Option, Some, None, if◌then◌else◌}
use Rattle.mill_io.specs.declared.program.Program.{Program}
use Rattle.mill_io.specs.declared.program.Program.TheVariants.{Help, CommandHelp, Version as AskedVersion}
use Rattle.help_pages.specs.declared.page.TheConstants.{COMMANDS, VERSION, WEAVE, CHECK, DRAW, PAPER, CARDS, LIFT, TRIAL}
use Rattle.help_pages.specs.declared.page.Page.{Page}
use Rattle.help_pages.specs.declared.page.Page.TheVariants.{Commands, Version, Weave, Check, Draw, Paper, Cards, Lift, Trial}

-- what a page says
abbrev pub page_text : Page → List ℕ
page_text Commands = COMMANDS.now
page_text Version = VERSION.now
page_text Weave = WEAVE.now
page_text Check = CHECK.now
page_text Draw = DRAW.now
page_text Paper = PAPER.now
page_text Cards = CARDS.now
page_text Lift = LIFT.now
page_text Trial = TRIAL.now

-- the page of the command of that name
abbrev pub page_of_command : List ℕ → Option Page
page_of_command name =
    if bytes_eq name (codes "weave") then Some Weave
    else if bytes_eq name (codes "check") then Some Check
    else if bytes_eq name (codes "draw") then Some Draw
    else if bytes_eq name (codes "paper") then Some Paper
    else if bytes_eq name (codes "cards") then Some Cards
    else if bytes_eq name (codes "lift") then Some Lift
    else if bytes_eq name (codes "trial") then Some Trial
    else None

-- the page that the words ask for: the one of the command that the first word names, where the program is that of a command's help
abbrev pub page_of_first : List (List ℕ) → Option Page
page_of_first [] = None
page_of_first (name ∷ rest) = page_of_command name

abbrev pub page_of : Program → List (List ℕ) → Option Page
page_of Help words = Some Commands
page_of AskedVersion words = Some Version
page_of CommandHelp words = page_of_first words
page_of program words = None
