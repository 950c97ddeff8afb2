use Rattle.std.proofs.Common.{◌≢◌, ◌+◌, ap, get_or, length, sym, subst, All, ◌∙◌, List, arith}
use Rattle.std.proofs.lemmas.List.{get_or_push, length_push}
use Rattle.std.proofs.lemmas.List.Elements.{All-push}
use Rattle.mill_base.proofs.lemmas.Pieces.{cut_more, adjacent_push}
use Rattle.casting_out.specs.declared.stretch.Stretch.{Stretch}
use Rattle.casting_out.specs.inner.Stretches.{IsStretch, stretch_hooks, written_out}
use Rattle.casting_out.proofs.Stretches.{length-stretch_hooks, get_or-stretch_hooks, stretch_there}
use Rattle.casting_out.proofs.stretch.cut.Goals as goal

pub loop-column-preserved : goal.loop-column-preserved
loop-column-preserved c =
    let ss = c.loop-column.stretches.items in
    let columns = c.args.columns.now in
    let at = c.loop-column.column in
    let count = c.rising-count.result in
    let from = c.rising-count.ensures in
    let s : Stretch = record { hook = get_or columns at 0; count = count } in
    record {
      room = from.room;
      there = subst (λ (ss : List Stretch). All (λ s. IsStretch c.args.hooks s) ss) (sym c.in_ok-push.ensures.items)
          (All-push (λ s. IsStretch c.args.hooks s) ss s c.loop-column.invariant.there (stretch_there columns at c.args.hooks s c.requires.there from.some from.room from.hooks));
      columns = ap written_out c.in_ok-push.ensures.items
          ∙ cut_more stretch_hooks ss s columns at count c.loop-column.invariant.columns (length-stretch_hooks s) from.room (λ i low. get_or-stretch_hooks s i low ∙ sym (from.hooks i low));
      longest = adjacent_push (λ t next. next.hook ≢ t.hook + t.count) ss c.push.new.self.items s c.in_ok-push.ensures.items c.loop-column.invariant.longest
          (λ k d h. c.loop-column.invariant.last k d h c.loop-column-test.true);
      last = λ k d h below. subst (λ (t : Stretch). get_or columns (at + count) 0 ≢ t.hook + t.count)
          (sym (ap (λ xs. get_or xs k d) c.in_ok-push.ensures.items ∙ get_or_push ss s d k (omega (arith, h, ap length c.in_ok-push.ensures.items, length_push ss s)))) (from.longest below);
    }
