-- Which weaves and which pick the marks of a pick are for.
use Rattle.std.specs.Prelude.{◌≡◌, ℕ, List}
use Rattle.weave_book.specs.declared.colour_marks.ColourMarks.{ColourMarks}
use Rattle.weave_book.specs.declared.weaves.Weave.{Weave}

abbrev pub IsOf : List Weave → ℕ → ColourMarks → Type 0
IsOf weaves pick marks = (marks.weaves.now ≡ weaves) × (marks.pick ≡ pick)
