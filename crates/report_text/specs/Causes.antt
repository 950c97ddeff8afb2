-- Why the studio ends: the status of each cause, and its line on standard error. The statuses and the words are this project's own.
use Rattle.std.specs.Prelude.{ℕ, codes, List, [], ◌++◌}
use Rattle.mill_base.specs.Texts.{memory_text}
use Rattle.mill_io.specs.Names.{shown_name}
use Rattle.mill_io.specs.Texts.{failed_text}
use Rattle.draft_model.specs.Texts.{float_text}
use Rattle.card_image.specs.Texts.{chain_text}
use Rattle.session_rules.specs.Texts.{kind_text}
use Rattle.session_rules.specs.declared.fault.SessionFault.{SessionFault}
use Rattle.session_rules.specs.declared.fault.SessionFaultKind.{SessionFaultKind}
use Rattle.session_rules.specs.declared.fault.SessionFaultKind.TheVariants.{NotToml}
use Rattle.session_rules.specs.declared.fault.SessionRefusal.{SessionRefusal}
use Rattle.session_rules.specs.declared.fault.SessionRefusal.TheVariants.{Fault, ReadFault as NotRead, TooLong as TooManyBytes, OutOfMemory as NoMemory}
use Rattle.report_text.specs.declared.cause.Cause.{Cause}
use Rattle.report_text.specs.declared.cause.Cause.TheVariants.{Done, Usage, Session, OpeningFloat, OutOfMemory, ReadFault, WriteFault, TooLong, Chain}

-- the status with which the studio ends
abbrev pub status_of : Cause → ℕ
status_of Done = 0
status_of Usage = 1
status_of (Session fault) = 2
status_of (OpeningFloat run) = 3
status_of OutOfMemory = 4
status_of (ReadFault name) = 5
status_of WriteFault = 6
status_of (TooLong name) = 7
status_of (Chain fault) = 8

-- a name that is told as it is
abbrev pub as_is : List ℕ → List ℕ
as_is name = name

-- `session PATH: TEXT`, the path told in its way; bytes that are no TOML document have no path
abbrev pub told_fault : (List ℕ → List ℕ) → SessionFaultKind → SessionFault → List ℕ
told_fault told NotToml fault = codes "session: " ++ kind_text fault.kind
told_fault told _ fault = codes "session " ++ told fault.path ++ codes ": " ++ kind_text fault.kind

abbrev pub session_text : (List ℕ → List ℕ) → SessionFault → List ℕ
session_text told fault = told_fault told fault.kind fault

-- the words of a cause, names told in their way; where all was done there are none
abbrev pub words_of_cause : (List ℕ → List ℕ) → Cause → List ℕ
words_of_cause told Done = []
words_of_cause told Usage = codes "usage: weave SESSION, check SESSION, draw SESSION OUT, paper SESSION OUT, cards SESSION OUT, cards SESSION OUT down, lift SESSION CHAIN OUT, trial N"
words_of_cause told (Session fault) = session_text told fault
words_of_cause told (OpeningFloat run) = codes "opening " ++ float_text run
words_of_cause told OutOfMemory = memory_text (record {})
words_of_cause told (ReadFault name) = codes "cannot read " ++ told name
words_of_cause told WriteFault = failed_text (record {})
words_of_cause told (TooLong name) = codes "too long: " ++ told name
words_of_cause told (Chain fault) = codes "chain: " ++ chain_text fault

-- the words of a cause
abbrev pub cause_text : Cause → List ℕ
cause_text cause = words_of_cause as_is cause

-- the line of a cause: `studio: `, its words, in which the control characters of names are escaped, and a line feed; where all was done there
-- is none
abbrev pub line : Cause → List ℕ
line Done = []
line cause = codes "studio: " ++ words_of_cause shown_name cause ++ codes "\n"

-- the cause that the refusal of a session is
abbrev pub cause_of : SessionRefusal → Cause
cause_of (Fault fault) = Session fault
cause_of (NotRead name) = ReadFault name
cause_of (TooManyBytes name) = TooLong name
cause_of NoMemory = OutOfMemory
