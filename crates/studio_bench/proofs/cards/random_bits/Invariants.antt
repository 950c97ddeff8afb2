use Rattle.std.proofs.Common.{◌≡◌, length}
use Rattle.mill_base.specs.declared.limits.TheConstants.{MAX_COLUMNS}
use Rattle.studio_bench.proofs.cards.random_bits.Given as goal

abbrev pub invariant-loop-pick : goal.invariant-loop-pick
invariant-loop-pick l = (length l.row ≡ MAX_COLUMNS) × (l.bits.columns ≡ MAX_COLUMNS) × (length l.bits.rows ≡ 4096)
