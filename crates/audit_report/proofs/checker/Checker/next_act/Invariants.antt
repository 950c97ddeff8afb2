use Rattle.std.proofs.Common.{◌<◌, length}
use Rattle.version_journal.specs.declared.entry.Entry.{Entry}
use Rattle.report_text.specs.Reports.{act_line}
use Rattle.audit_model.specs.Audits.{Begins}
use Rattle.audit_model.specs.States.{CanDo, entries_of}
use Rattle.audit_report.specs.Checkers.{state_of}
use Rattle.audit_report.proofs.checker.Checker.next_act.Given as goal

abbrev pub invariant-loop-painter : goal.invariant-loop-painter
invariant-loop-painter l = (entry : Entry) → entry.painter < l.painter → CanDo l.session (state_of l.self) entry
    → Begins l.piece (act_line (length (entries_of (state_of l.self))) entry) → ⊥
