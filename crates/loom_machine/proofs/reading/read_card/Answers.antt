use Rattle.std.proofs.Common.{◌∙◌, sym, arith}
use Rattle.mill_base.proofs.lemmas.Packs.{unpacked_is}
use Rattle.loom_machine.proofs.ReadCards.{read_more}
use Rattle.loom_machine.proofs.reading.read_card.Goals as goal

pub loop-index-preserved : goal.loop-index-preserved
loop-index-preserved c = record {
  len = c.put_word.ensures.len ∙ c.loop-index.invariant.len;
  done = read_more c.loop-index.hooks c.put_word.new.self c.args.card.now c.loop-index.index c.holes_of.result c.put_word.ensures.len c.put_word.ensures.here c.put_word.ensures.others
      c.holes_of.ensures c.loop-index.invariant.done;
}

pub returns-clause-bits : goal.returns-clause-bits
returns-clause-bits c k low =
    c.loop-index.invariant.done k (omega (arith, low, c.loop-index-test.false, c.loop-index.auto.index-end, c.len.ensures)) (omega (arith, low, c.loop-index.invariant.len))

pub returns-clause-inverse : goal.returns-clause-inverse
returns-clause-inverse c row long are =
    unpacked_is c.args.card.now c.loop-index.hooks row (long ∙ sym c.loop-index.invariant.len)
    (λ k low. c.loop-index.invariant.done k (omega (arith, low, c.loop-index.invariant.len, c.loop-index-test.false, c.loop-index.auto.index-end, c.len.ensures)) low) are
