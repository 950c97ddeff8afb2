use Rattle.std.proofs.Common.{◌≡◌, ◌++◌, map}
use Rattle.std.specs.List.{flat_map, range_with_len}
use Rattle.byteorder.specs.Endian.{little_bytes}
use Rattle.tiff_palette.specs.Written.{written_offset}
use Rattle.tiff_palette.proofs.writing.push_offsets.Given as goal

abbrev pub invariant-loop-strip : goal.invariant-loop-strip
invariant-loop-strip l = l.out.items ≡ l.initial.out.items ++ flat_map (little_bytes 4) (map (written_offset l.layout) (range_with_len 0 l.strip))
