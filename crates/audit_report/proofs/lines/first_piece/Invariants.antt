use Rattle.std.proofs.Common.{take}
use Rattle.audit_model.specs.Pieces.{Plain}
use Rattle.audit_report.proofs.lines.first_piece.Given as goal

abbrev pub invariant-loop-k : goal.invariant-loop-k
invariant-loop-k l = Plain (take l.k l.bytes)
