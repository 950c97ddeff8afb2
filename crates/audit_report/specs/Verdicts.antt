-- The answer to a report.
use Rattle.std.specs.Prelude.{◌≡◌, ℕ, List}
use Rattle.version_journal.specs.declared.run_log.RunLog.{RunLog}
use Rattle.session_file.specs.declared.session.Session.{Session}
use Rattle.audit_model.specs.Audits.{IsNo, IsYes}
use Rattle.audit_report.specs.declared.check.Verdict.{Verdict}
use Rattle.audit_report.specs.declared.check.Verdict.TheVariants.{Yes, No}

-- The bytes are the report of this legal log and of no other; or they are the report of none, and this is the first line that breaks them.
abbrev pub IsVerdict : Session → List ℕ → Verdict → Type 0
IsVerdict session bytes (Yes log) = IsYes session bytes log × ((other : RunLog) → IsYes session bytes other → other ≡ log)
IsVerdict session bytes (No k) = IsNo session bytes k
