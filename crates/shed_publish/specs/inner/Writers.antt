-- What the desk's writer keeps.
use Rattle.std.specs.Prelude.{◌≡◌, ℕ, ◌<◌, List, [], ◌∷◌, length, drop}
use Rattle.left_right.specs.Sides.{view}
use Rattle.left_right.specs.declared.writer.Writer.{Writer}
use Rattle.left_right.specs.declared.Absorb.{Ghosts}
use Rattle.shed_publish.specs.Versions.{IsPublished}
use Rattle.shed_publish.specs.inner.Rule.{entries_of}
use Rattle.shed_publish.specs.declared.newest.Version.{Version}
use Rattle.shed_publish.specs.declared.board.Put.{Put}
use Rattle.shed_publish.specs.declared.board.Board.{Board}
use Rattle.shed_publish.specs.declared.board.View.{View}

-- each of these operations puts its entry at this place
abbrev pub AllAt : ℕ → List Put → Type 0
AllAt n [] = Unit {0}
AllAt n (p ∷ ps) = (p.at ≡ n) × AllAt n ps

module _ {P A S : Type 0} {g : Ghosts Board Put S} where
  abbrev pub list_of : Writer Board Put View P A S g → List Version
  list_of w = entries_of w.desk.shown.value

  -- it has seen the list that it shows, which has an entry; what is pending, each of it at the end of that list, could
  -- not be published
  pub record IsWriter (w : Writer Board Put View P A S g) : Type 0 where
    pub seen : (view {T = Board} {V = View} w.desk.place).seen ≡ list_of w
    pub published : IsPublished (list_of w)
    pub some : 0 < length (list_of w)
    pub pending : AllAt (length (list_of w)) (drop w.behind w.log.items)
