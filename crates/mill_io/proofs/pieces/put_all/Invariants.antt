use Rattle.std.proofs.Common.{◌≡◌, map, take}
use Rattle.std.specs.List.{concat}
use Rattle.mill_io.specs.Takes.{TookAll}
use Rattle.mill_io.proofs.pieces.put_all.Given as goal

abbrev pub invariant-loop-piece : goal.invariant-loop-piece
invariant-loop-piece g l = record {
  faults : g.K.Sink.faults l.out ≡ g.K.Sink.faults l.initial.out;
  taken : TookAll (g.K.Sink.taken l.initial.out) (g.K.Sink.taken l.out) (concat (map (λ piece. piece.now) (take l.piece-index l.pieces)));
}
