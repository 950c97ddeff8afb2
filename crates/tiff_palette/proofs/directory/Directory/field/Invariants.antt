use Rattle.std.proofs.Common.{◌≡◌, ◌==◌, find, None}
use Rattle.tiff_palette.specs.Directories.{first_entries}
use Rattle.tiff_palette.proofs.directory.Directory.field.Given as goal

abbrev pub invariant-loop-k : goal.invariant-loop-k
invariant-loop-k l = find (λ entry. entry.tag == l.tag) (first_entries l.self.bytes.now l.k) ≡ None
