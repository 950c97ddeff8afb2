use Rattle.std.proofs.Common.{length, drop, arith}
use Rattle.std.proofs.lemmas.List.Prefix.{front_from_reads}
use Rattle.audit_report.proofs.lines.begins.Goals as goal

pub returns-clause-yes : goal.returns-clause-yes
returns-clause-yes c =
    let line = c.args.line.now in
    let piece = c.args.piece.now in
    λ t. (drop (length piece) line, front_from_reads 0 line piece c.loop-k.invariant.0 (λ i h. c.loop-k.invariant.1 i 0 (omega (arith, h, c.loop-k-test.false))))
