use Rattle.std.proofs.Common.{◌≡◌, ◌++◌, take, slice_index_or}
use Rattle.mill_base.specs.declared.face.Face.TheVariants.{Up}
use Rattle.report_text.specs.Reports.{lines_from, loom_lines}
use Rattle.report_text.proofs.report.push_looms.Given as goal

abbrev pub invariant-loop-loom : goal.invariant-loop-loom
invariant-loop-loom l = l.out.items ≡ l.initial.out.items ++ lines_from 0 (λ loom repeats. loom_lines l.shift (slice_index_or l.faces loom Up) loom repeats) (take l.loom l.looms)
