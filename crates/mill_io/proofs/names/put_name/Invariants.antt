use Rattle.std.proofs.Common.{◌≡◌, IsUtf8}
use Rattle.std.specs.Str.Iter.{chars_rest}
use Rattle.mill_io.proofs.lemmas.Shown.{IsTold}
use Rattle.mill_io.proofs.names.put_name.Given as goal

abbrev pub invariant-loop-c : goal.invariant-loop-c
invariant-loop-c g l = record {
  utf8 : IsUtf8 (chars_rest l.c-iterator);
  faults : g.K.Sink.faults l.out ≡ g.K.Sink.faults l.initial.out;
  told : IsTold (g.K.Sink.taken l.initial.out) (g.K.Sink.taken l.out) l.block.items (chars_rest l.c-iterator) l.fn.name;
}
