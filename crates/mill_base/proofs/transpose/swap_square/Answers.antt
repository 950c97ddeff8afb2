use Rattle.std.proofs.Common.{◌≡◌, ◌+◌, ℕ, subst, arith}
use Rattle.mill_base.specs.inner.Swaps.{ArePairsSwapped}
use Rattle.mill_base.proofs.lemmas.BlockRounds.{no_pair_swapped, one_pair_swapped}
use Rattle.mill_base.proofs.transpose.swap_square.Goals as goal

pub loop-row-init : goal.loop-row-init
loop-row-init c = no_pair_swapped c.args.mask c.args.by c.args.start c.args.block.now

pub loop-row-preserved : goal.loop-row-preserved
loop-row-preserved c =
    one_pair_swapped c.args.mask c.args.by c.args.start c.loop-row.row c.args.block.now c.loop-row.block c.swap_pair.new.block c.loop-row.auto.row c.loop-row-test.true c.loop-row.invariant
    c.swap_pair.ensures.pair c.swap_pair.ensures.others

pub returns : goal.returns
returns c =
    let all : c.loop-row.row ≡ c.args.start + c.args.by = (let a = c.loop-row-test.false in let b = c.loop-row.auto.row-end in omega arith) in
    subst (λ (n : ℕ). ArePairsSwapped c.args.mask c.args.by c.args.start n c.args.block.now c.loop-row.block) all c.loop-row.invariant
