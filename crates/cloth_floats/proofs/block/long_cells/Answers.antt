use Rattle.std.proofs.Common.{length, get_or, replicate, false, cond, ap, ◌∙◌, sym}
use Rattle.mill_base.specs.Lines.{line_by}
use Rattle.cloth_floats.specs.Windows.{is_long_over}
use Rattle.mill_base.proofs.lemmas.Lines.{length-line_by}
use Rattle.cloth_floats.proofs.Blocks.{long_chosen, long_alike}
use Rattle.cloth_floats.proofs.Evens.{all_false}
use Rattle.cloth_floats.proofs.block.long_cells.Goals as goal

pub store_long-requires-clause-out : goal.store_long-requires-clause-out
store_long-requires-clause-out c = c.requires.out ∙ ap length (sym c.of-long.ensures) ∙ sym (ap length c.mark_long-some.ensures.line ∙ length-line_by (length c.of-long.result) _)

pub select-requires-clause-one : goal.select-requires-clause-one
select-requires-clause-one c = ap length c.mark_long.ensures.line ∙ length-line_by (length c.of-lifted_long.result) _ ∙ ap length (c.of-lifted_long.ensures ∙ sym c.of.ensures)

pub select-requires-clause-other : goal.select-requires-clause-other
select-requires-clause-other c = ap length c.mark_long-some.ensures.line ∙ length-line_by (length c.of-long.result) _ ∙ ap length (c.of-long.ensures ∙ sym c.of.ensures)

pub store-requires : goal.store-requires
store-requires c = c.requires.out ∙ ap length (sym c.of.ensures) ∙ sym (ap length c.select.ensures ∙ length-line_by (length c.of.result) _)

pub returns-then-lifted-unlifted : goal.returns-then-lifted-unlifted
returns-then-lifted-unlifted c =
    c.store_long.ensures
    ∙ long_alike c.args.line.now c.mark_long-some.new.line c.args.lifted c.args.unlifted c.if-lifted-unlifted.true
    (c.mark_long-some.ensures.line ∙ ap (λ l. line_by (length l) (is_long_over l c.args.unlifted)) c.of-long.ensures)

pub returns : goal.returns
returns c =
    c.store.ensures
    ∙ long_chosen c.args.line.now c.mark_long.new.line c.mark_long-some.new.line c.select.result c.args.lifted c.args.unlifted
    (c.mark_long.ensures.line ∙ ap (λ l. line_by (length l) (is_long_over l c.args.lifted)) c.of-lifted_long.ensures)
    (c.mark_long-some.ensures.line ∙ ap (λ l. line_by (length l) (is_long_over l c.args.unlifted)) c.of-long.ensures)
    (c.select.ensures ∙ ap (λ l. line_by (length l) (λ k. cond (get_or l k false) (get_or c.mark_long.new.line k false) (get_or c.mark_long-some.new.line k false))) c.of.ensures)

pub returns-then-is_plain : goal.returns-then-is_plain
returns-then-is_plain c = c.fill.ensures ∙ ap (λ n. replicate n false) c.requires.out ∙ all_false c.args.line.now c.args.lifted c.args.unlifted (c.is_plain.ensures c.if-is_plain.true)
