use Rattle.std.proofs.Common.{◌∙◌}
use Rattle.std.proofs.lemmas.Result.{err_from_is_err_and}
use Rattle.mill_io.proofs.lemmas.Listed.{all_pieces, next_piece}
use Rattle.mill_io.proofs.pieces.put_all.Goals as goal

pub returns-in_err-put_pieces-clause-taken : goal.returns-in_err-put_pieces-clause-taken
returns-in_err-put_pieces-clause-taken g c = let p = err_from_is_err_and c.from_residual.result c.from_residual.ensures.1 in rw (p.1)
    (all_pieces c.args.pieces.now c.loop-piece.piece-index (g.K.Sink.taken c.args.out.now) (g.K.Sink.taken c.loop-piece.out) (g.K.Sink.taken c.put_pieces.new.out) _
    c.loop-piece-test.true c.loop-piece.invariant.taken c.in_err-put_pieces.ensures.taken)

pub loop-piece-preserved : goal.loop-piece-preserved
loop-piece-preserved g c = record {
  faults = c.in_ok-put_pieces.ensures.faults ∙ c.loop-piece.invariant.faults;
  taken = next_piece c.args.pieces.now c.loop-piece.piece-index (g.K.Sink.taken c.args.out.now) (g.K.Sink.taken c.loop-piece.out) (g.K.Sink.taken c.put_pieces.new.out) _
      c.loop-piece-test.true c.loop-piece.invariant.taken c.in_ok-put_pieces.ensures.taken;
}
