-- The weave of each colour.
use Rattle.std.specs.Prelude.{ℕ, Bool, List, slice_index_or}
use Rattle.weave_book.specs.Weaves.{mark}
use Rattle.weave_book.specs.declared.weaves.Weave.{Weave}
use Rattle.weave_book.specs.declared.weaves.Weave.TheVariants.{Blank}

-- the weave of a colour; a colour that the book lacks would be blank
abbrev pub weave_of : List Weave → ℕ → Weave
weave_of book colour = slice_index_or book colour Blank

-- whether the weave of a colour has a mark at column c and pick p
abbrev pub colour_mark : List Weave → ℕ → ℕ → ℕ → Bool
colour_mark book colour c p = mark (weave_of book colour) c p
