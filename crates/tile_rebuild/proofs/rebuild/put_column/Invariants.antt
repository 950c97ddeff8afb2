use Rattle.std.proofs.Common.{◌≡◌, ◌<◌, ℕ, false, length, get_or}
use Rattle.weave_book.specs.Books.{colour_mark}
use Rattle.tile_rebuild.proofs.rebuild.put_column.Given as goal

abbrev pub invariant-loop-pick : goal.invariant-loop-pick
invariant-loop-pick l = record {
  len : length l.out ≡ length l.fn.out;
  marks : (y : ℕ) → y < l.pick → get_or l.out y false ≡ colour_mark l.book (get_or l.colours y 0) l.column y;
}
