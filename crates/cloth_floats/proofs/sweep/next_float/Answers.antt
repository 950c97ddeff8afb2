use Rattle.std.proofs.Common.{◌≡◌, ◌+◌, ◌∙◌, ap, arith}
use Rattle.cloth_floats.specs.declared.Run.{Run}
use Rattle.cloth_floats.specs.Floats.{float_at}
use Rattle.cloth_floats.proofs.Indexed.{next_none, next_some, later}
use Rattle.cloth_floats.proofs.sweep.next_float.Goals as goal

pub returns-then-start-from-clause-next : goal.returns-then-start-from-clause-next
returns-then-start-from-clause-next g c i is =
    next_none (g.L.Line.cells c.args.line.now) i c.args.run (omega (arith, c.from.ensures, c.from-2.ensures, c.from-3.ensures, c.len.ensures)) is

starts : (g : _) (c : goal.After-float_at g) → c.from.result + c.from-2.result ≡ c.args.run.start + c.args.run.length
starts g c = omega (arith, c.from.ensures, c.from-2.ensures)

pub returns-clause-next : goal.returns-clause-next
returns-clause-next g c i is =
    next_some (g.L.Line.cells c.args.line.now) i c.args.run c.float_at.result (omega (arith, c.from.ensures, c.from-2.ensures, c.from-3.ensures, c.len.ensures))
    (c.float_at.ensures.float ∙ ap (float_at (g.L.Line.cells c.args.line.now)) (starts g c)) is

pub returns-clause-later : goal.returns-clause-later
returns-clause-later g c =
    let more = later (g.L.Line.cells c.args.line.now) c.requires.0 c.args.run (omega (arith, c.from.ensures, c.from-2.ensures, c.from-3.ensures, c.len.ensures)) c.requires.1 in
    let start : c.float_at.result.start ≡ c.args.run.start + c.args.run.length = ap (λ (r : Run). r.start) c.float_at.ensures.float ∙ starts g c in
    omega arith
