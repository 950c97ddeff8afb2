use Rattle.std.proofs.Common.{subst, ◌∙◌, List, ℕ, arith}
use Rattle.sha2.specs.Hashers.{Holds256}
use Rattle.loom_threads.proofs.Buffers.{packed_more}
use Rattle.loom_threads.proofs.digest.hash_cloth.Goals as goal

pub loop-pick-preserved : goal.loop-pick-preserved
loop-pick-preserved c = record {
  room = c.hash_row.ensures.room ∙ c.loop-pick.invariant.room;
  hashed = subst (λ (message : List ℕ). Holds256 c.hash_row.new.hasher message)
      (packed_more c.args.cloth.now.rows c.loop-pick.pick c.row.result.now (omega (arith, c.loop-pick-test.true, c.picks-pick-end.ensures)) c.row.ensures.row)
      (c.hash_row.ensures.hashed _ c.loop-pick.invariant.hashed);
}
