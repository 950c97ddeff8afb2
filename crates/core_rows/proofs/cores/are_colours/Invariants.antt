use Rattle.std.proofs.Common.{◌<◌, ℕ, get_or}
use Rattle.point_paper.specs.declared.paper.Span.{Span}
use Rattle.core_rows.proofs.cores.are_colours.Given as goal

abbrev pub invariant-loop-span : goal.invariant-loop-span
invariant-loop-span l = (k : ℕ) (d : Span) → k < l.span-index → (get_or l.spans k d).colour < l.colours
