-- The marks of one pick by colour, of which some are kept.
use Rattle.std.specs.Prelude.{◌≢◌, ℕ, List, slice_index}
use Rattle.weave_book.specs.Books.{colour_mark}
use Rattle.weave_book.specs.inner.Parts.{IsPattern}
use Rattle.weave_book.specs.declared.weaves.Weave.{Weave}

-- of each colour whose number of columns is not 0, its marks come again after these, and the word has the first 64
abbrev pub AreKept : List Weave → ℕ → List ℕ → List ℕ → Type 0
AreKept book pick words repeats =
    (colour : ℕ) → slice_index repeats colour ≢ 0 → IsPattern (λ c. colour_mark book colour c pick) (slice_index repeats colour) (slice_index words colour)
