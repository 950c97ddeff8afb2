use Rattle.std.proofs.Common.{◌≡◌, take}
use Rattle.session_file.specs.Sessions.{book_of}
use Rattle.session_file.proofs.assembly.make_book.Given as goal

abbrev pub invariant-loop-colour : goal.invariant-loop-colour
invariant-loop-colour l = l.book ≡ book_of (take l.colour-index l.colours)
