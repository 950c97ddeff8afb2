use Rattle.std.proofs.Common.{◌<◌, false, length, get_or, sym, ap, ◌∙◌, arith, length-set}
use Rattle.std.proofs.lemmas.Option.{get_or_from_slice_get}
use Rattle.mill_base.proofs.lemmas.Lines.{one_more}
use Rattle.weave_book.specs.Books.{colour_mark}
use Rattle.weave_book.specs.Weaves.{mark}
use Rattle.weave_book.specs.declared.weaves.Weave.{Weave}
use Rattle.weave_book.specs.declared.weaves.Weave.TheVariants.{Blank}
use Rattle.tile_rebuild.proofs.rebuild.put_column.Goals as goal

pub loop-pick-preserved : goal.loop-pick-preserved
loop-pick-preserved c =
    let pick = c.loop-pick.pick in
    let there : pick < length c.loop-pick.out = omega (arith, c.loop-pick.invariant.len, c.loop-pick-test.true, c.len-pick-end.ensures) in
    let weave = get_or_from_slice_get c.args.book.now (get_or c.args.colours.now pick 0) c.weave-weave.result.now Blank c.weave-weave.ensures in
    let marked = c.mark.ensures ∙ ap (λ (w : Weave). mark w c.args.column pick) (sym weave) in
    record {
      len = ap length c.set.ensures ∙ length-set c.loop-pick.out pick c.mark.result ∙ c.loop-pick.invariant.len;
      marks = λ y h. ap (λ xs. get_or xs y false) c.set.ensures
          ∙ one_more false c.loop-pick.out pick c.mark.result (λ y. colour_mark c.args.book.now (get_or c.args.colours.now y 0) c.args.column y) there marked c.loop-pick.invariant.marks y h;
    }
