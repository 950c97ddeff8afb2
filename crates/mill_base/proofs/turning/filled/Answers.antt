use Rattle.std.proofs.Common.{◌==◌, ◌/◌, ◌%◌, ap, ◌∙◌, arith}
use Rattle.std.specs.Int.{bit_at}
use Rattle.std.proofs.lemmas.List.{get_or-replicate}
use Rattle.mill_base.proofs.lemmas.WordBits.{bit_of_pattern}
use Rattle.mill_base.proofs.turning.filled.Goals as goal
use Rattle.mill_base.proofs.turning.filled.Goals.{then-value, else-value}

pub returns-clause-all : goal.returns-clause-all
returns-clause-all c k h =
    c.clear_past.ensures.below k h
    ∙ ap (λ w. bit_at w (k % 64) == 1) (get_or-replicate 256 (k / 64) c.if-value.pattern 0 (omega arith))
    ∙ bit_of_pattern c.if-value.pattern (k % 64) c.args.value (omega arith)
    (elim c.if-value.branch [
      | then-value w ↦ rw w.if-value.true w.pattern-is
      | else-value w ↦ rw w.if-value.false w.pattern-is
    ])
