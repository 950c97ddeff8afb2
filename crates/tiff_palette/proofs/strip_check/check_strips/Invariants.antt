use Rattle.std.proofs.Common.{◌≡◌, []}
use Rattle.tiff_palette.specs.Rules.{short_strips}
use Rattle.tiff_palette.proofs.strip_check.check_strips.Given as goal

abbrev pub invariant-loop-strip : goal.invariant-loop-strip
invariant-loop-strip l = short_strips l.offsets.bytes.now l.strip ≡ []
