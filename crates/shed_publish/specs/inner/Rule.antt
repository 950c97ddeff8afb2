-- The rule of the published list: it is published, and begins with what each end has seen and learnt.
use Rattle.std.specs.Prelude.{◌≡◌, ℕ, List, [], ◌∷◌, ◌++◌, map, take}
use mathlib.Core.Option.{some}
use lib.ListN.{get_elem?}
use Rattle.shed_publish.specs.Versions.{version_of, IsPrefix, IsPublished, BeginsWithAll}
use Rattle.shed_publish.specs.declared.newest.Version.{Version}
use Rattle.shed_publish.specs.declared.board.Board.{Board}
use Rattle.shed_publish.specs.declared.board.View.{View}
use Rattle.shed_publish.specs.declared.board.Put.{Put}

abbrev pub entries_of : Board → List Version
entries_of b = map version_of b.entries.items

abbrev pub newcomer : View
newcomer = record { seen = []; learnt = [] }

abbrev pub Fits : List Version → View → Type 0
Fits list v = IsPrefix v.seen list × BeginsWithAll list v.learnt

abbrev pub Keeps : Board → List View → Type 0
Keeps x views =
    IsPublished (entries_of x)
    × ((seat : ℕ) (v : View) → get_elem? views seat ≡ some v → Fits (entries_of x) v)

-- the list after the step is what the end has seen from then on; it begins with all that was seen and learnt
pub record Sees (v : View) (x y : Board) (w : View) : Type 0 where
  pub list : w.seen ≡ entries_of y
  pub learnt : w.learnt ≡ []
  pub published : IsPublished w.seen
  pub later : IsPrefix v.seen w.seen
  pub told : BeginsWithAll w.seen v.learnt

-- an end that is told what another has seen
abbrev pub informed : View → View → View
informed v w = record { seen = v.seen; learnt = w.seen ∷ v.learnt }

-- the list with an entry put at a place, and nothing behind it
abbrev pub put_at : List Version → Put → List Version
put_at list p = take p.at list ++ version_of p.entry ∷ []
