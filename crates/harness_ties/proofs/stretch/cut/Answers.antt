use Rattle.std.proofs.Common.{◌+◌, ap, get_or, length, sym, subst, All, ◌∙◌, List, arith}
use Rattle.std.proofs.lemmas.List.{get_or_push, length_push}
use Rattle.std.proofs.lemmas.List.Elements.{All-push, All-nil}
use Rattle.mill_base.proofs.lemmas.Pieces.{cut_more, adjacent_push}
use Rattle.harness_ties.specs.declared.stretch.Stretch.{Stretch}
use Rattle.harness_ties.specs.inner.Stretches.{IsLongest, IsStretch, stretch_columns, written_out}
use Rattle.harness_ties.proofs.Stretches.{length-stretch_columns, get_or-stretch_columns}
use Rattle.harness_ties.proofs.stretch.cut.Goals as goal

pub loop-end-init : goal.loop-end-init
loop-end-init c = record {
  room = omega arith;
  there = subst (λ (ss : List Stretch). All (λ s. IsStretch c.args.columns s) ss) (sym c.new-stretches.ensures.items) (All-nil (λ s. IsStretch c.args.columns s));
  tie = ap written_out c.new-stretches.ensures.items;
  longest = λ k d h. absurd (omega (arith, ap length c.new-stretches.ensures.items, h));
  last = λ k d h below. absurd (omega (arith, ap length c.new-stretches.ensures.items, h));
}

pub loop-end-preserved : goal.loop-end-preserved
loop-end-preserved c =
    let ss = c.loop-end.stretches.items in
    let s = c.stretch_from-stretch.result in
    let tie = c.args.tie.now in
    let from = c.stretch_from-stretch.ensures in
    record {
      room = from.room;
      there = subst (λ (ss : List Stretch). All (λ s. IsStretch c.args.columns s) ss) (sym c.in_ok-push.ensures.items) (All-push (λ s. IsStretch c.args.columns s) ss s c.loop-end.invariant.there from.there);
      tie = ap written_out c.in_ok-push.ensures.items
          ∙ cut_more stretch_columns ss s tie c.loop-end.end s.count c.loop-end.invariant.tie (length-stretch_columns s) from.room (λ i low. get_or-stretch_columns s i low ∙ sym (from.columns i low));
      longest = adjacent_push (λ t next. IsLongest t next.column) ss c.push.new.self.items s c.in_ok-push.ensures.items c.loop-end.invariant.longest
          (λ k d h. subst (IsLongest (get_or ss k d)) (sym from.first) (c.loop-end.invariant.last k d h c.loop-end-test.true));
      last = λ k d h below. subst (λ t. IsLongest t (get_or tie (c.loop-end.end + s.count) 0))
          (sym (ap (λ xs. get_or xs k d) c.in_ok-push.ensures.items ∙ get_or_push ss s d k (omega (arith, h, ap length c.in_ok-push.ensures.items, length_push ss s)))) (from.longest below);
    }
