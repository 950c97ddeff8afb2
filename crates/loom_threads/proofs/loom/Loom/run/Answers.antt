use Rattle.std.proofs.Common.{◌∙◌, refl, arith}
use Rattle.shed_publish.proofs.lemmas.Prefixes.{prefix_refl}
use Rattle.loom_threads.specs.Looms.{list_of}
use Rattle.loom_threads.proofs.lemmas.Parts.{wove_none, wove_then}
use Rattle.loom_threads.proofs.loom.Loom.run.Goals as goal

pub repeats-init : goal.repeats-init
repeats-init g c =
    let self = c.args.self.now in
    record {
      wove = wove_none c.args.shift self self refl (prefix_refl (list_of self)) (λ told k. k) refl (omega arith);
      told = c.requires.told;
      count = omega arith;
      missed = refl;
      newest = λ some. absurd (omega arith);
    }

pub repeats-preserved : goal.repeats-preserved
repeats-preserved g c = record {
  wove = wove_then c.args.shift c.args.self.now c.repeats.self c.turn.new.self c.repeats.invariant.wove c.turn.ensures.wove;
  told = c.turn.ensures.told;
  count = omega (arith, c.if-not-turn.ensures.count, c.repeats.invariant.count);
  missed = c.if-not-turn.ensures.missed ∙ c.repeats.invariant.missed;
  newest = λ some. c.if-not-turn.ensures.newest refl;
}

pub returns-then-not-turn-clause-wove : goal.returns-then-not-turn-clause-wove
returns-then-not-turn-clause-wove g c = wove_then c.args.shift c.args.self.now c.repeats.self c.turn.new.self c.repeats.invariant.wove c.turn.ensures.wove
