use Rattle.std.proofs.Common.{◌≡◌, ◌∙◌, ◌++◌, ℕ, Bool, refl, List, map, ap, subst, arith}
use Rattle.std.specs.List.{concat}
use Rattle.sha2.specs.Hashers.{Holds256}
use Rattle.mill_base.specs.Bits.{packed}
use Rattle.mill_base.specs.Lines.{line_by}
use Rattle.loom_threads.specs.Lifts.{row_from}
use Rattle.loom_threads.specs.Woven.{digest_of}
use Rattle.loom_threads.specs.inner.Lifters.{LifterValue}
use Rattle.loom_threads.proofs.Buffers.{packed_line, packed_none}
use Rattle.loom_threads.proofs.lifter.Lifter.digest.Goals as goal

pub loop-pick-init : goal.loop-pick-init
loop-pick-init c = record {
  same = refl;
  hashed = subst (λ (message : List ℕ). Holds256 c.new-hasher.result message)
      (packed_none (row_from c.args.self.now.machine c.args.self.now.face c.args.cards.now.holes)) c.new-hasher.ensures;
}

pub loop-pick-preserved : goal.loop-pick-preserved
loop-pick-preserved c =
    let cards = c.args.cards.now in
    let k = c.loop-pick.pick in
    let row : ℕ → List Bool = row_from c.args.self.now.machine c.args.self.now.face cards.holes in
    let before = concat (map packed (line_by k row)) in
    let more : Holds256 c.hash_pick.new.hasher (before ++ packed (row k)) =
    subst (λ (s : LifterValue). Holds256 c.hash_pick.new.hasher (before ++ packed (row_from s.machine s.face cards.holes k))) c.loop-pick.invariant.same
    (c.hash_pick.ensures.hashed before c.loop-pick.invariant.hashed)
    in
    record {
      same = c.hash_pick.ensures.same ∙ c.loop-pick.invariant.same;
      hashed = subst (λ (message : List ℕ). Holds256 c.hash_pick.new.hasher message) (packed_line k row) more;
    }

pub returns-clause-digest : goal.returns-clause-digest
returns-clause-digest c =
    let self = c.args.self.now in
    let all : c.loop-pick.pick ≡ c.args.cards.now.design.picks = omega (arith, c.loop-pick-test.false, c.picks-pick-end.ensures.count) in
    c.finalize.ensures _ c.loop-pick.invariant.hashed
    ∙ ap (λ n. digest_of (record { ends = 0; rows = line_by n (row_from self.machine self.face c.args.cards.now.holes) })) all
