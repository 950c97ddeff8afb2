use Rattle.std.proofs.Common.{◌≡◌, ◌*◌, ◌++◌, ℕ, drop, [], ◌∷◌, List, length, sym, ap, subst, arith, length-append}
use Rattle.std.specs.Prelude.{All}
use Rattle.std.proofs.lemmas.List.Elements.{All-push}
use Rattle.block_journal.specs.declared.mark.Mark.{Mark}
use Rattle.block_journal.specs.Journals.{Fits, mark_bytes}
use Rattle.block_journal.proofs.Reading.{decoded_more, tail_is}
use Rattle.block_journal.proofs.decode.marks_of.Goals as goal

pub loop-index-preserved : goal.loop-index-preserved
loop-index-preserved c =
    let marks = c.loop-index.marks.items in
    let mark = c.mark_at-mark.result in
    let is = c.in_ok-push.ensures.items in
    let here = subst (λ (l : List ℕ). mark_bytes mark ++ drop 12 l ≡ l) (tail_is (12 * c.loop-index.index) c.args.bytes.now) c.mark_at-mark.ensures.bytes in
    record {
      count = omega (arith, ap length is, length-append marks (mark ∷ []), c.loop-index.invariant.count);
      fits = subst (λ (ms : List Mark). All Fits ms) (sym is) (All-push Fits marks mark c.loop-index.invariant.fits c.mark_at-mark.ensures.fits);
      bytes = decoded_more marks c.push.new.self.items mark c.args.bytes.now c.loop-index.index is here c.loop-index.invariant.bytes;
    }
