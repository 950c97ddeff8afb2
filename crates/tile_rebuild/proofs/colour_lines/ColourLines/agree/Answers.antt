use Rattle.std.proofs.Common.{◌≡◌, true, false, List, ℕ, refl, sym, subst}
use Rattle.std.proofs.lemmas.Bool.{both_ways}
use Rattle.tile_rebuild.specs.Lines.{AreColoursOf}
use Rattle.tile_rebuild.proofs.lemmas.Lists.{colours_read, picks_to_read, columns_to_read}
use Rattle.tile_rebuild.proofs.colour_lines.ColourLines.agree.Goals as goal

pub returns-then-not-same_lines-clause-lines : goal.returns-then-not-same_lines-clause-lines
returns-then-not-same_lines-clause-lines g c = (
  (λ no. absurd (both_ways false refl no)),
  (λ lines.
      let same : c.same_lines.result ≡ true = c.same_lines.ensures.differ
      (picks_to_read c.args.part c.args.paper.now c.size-columns.result c.deref.result.now c.args.self.now.columns.items c.size-columns.ensures.size
      (subst (λ (xs : List ℕ). AreColoursOf c.args.part c.args.paper.now xs c.args.self.now.columns.items) (sym c.deref.ensures.value) lines)) in
      cc c.if-not-same_lines.true),
)

pub returns-clause-lines : goal.returns-clause-lines
returns-clause-lines g c = (
  (λ yes.
      subst (λ (xs : List ℕ). AreColoursOf c.args.part c.args.paper.now xs c.args.self.now.columns.items) c.deref.ensures.value
      (subst (λ (ys : List ℕ). AreColoursOf c.args.part c.args.paper.now c.deref.result.now ys) c.deref-2.ensures.value
      (colours_read c.args.part c.args.paper.now c.size-columns.result c.deref.result.now c.deref-2.result.now c.size-columns.ensures.size
      (c.same_lines.ensures.same c.if-not-same_lines.false) (c.same_lines-2.ensures.same yes)))),
  (λ lines. c.same_lines-2.ensures.differ
      (columns_to_read c.args.part c.args.paper.now c.size-columns.result c.args.self.now.picks.items c.deref-2.result.now c.size-columns.ensures.size
      (subst (λ (ys : List ℕ). AreColoursOf c.args.part c.args.paper.now c.args.self.now.picks.items ys) (sym c.deref-2.ensures.value) lines))),
)
