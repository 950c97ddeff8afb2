-- Published lists.
use Rattle.std.specs.Prelude.{◌≡◌, ℕ, ◌+◌, List, [], ◌∷◌, ◌++◌}
use Rattle.std.specs.Arc.{arc_value}
use Rattle.card_image.specs.Sets.{CardDesign}
use Rattle.shed_publish.specs.declared.newest.Newest.{Newest}
use Rattle.shed_publish.specs.declared.newest.Version.{Version}

-- what is published of a version, without the owner that it is handed about by
abbrev pub version_of : Newest → Version
version_of n = record { version = n.version; cards = arc_value n.cards }

-- a list begins with a shorter one
abbrev pub IsPrefix : List Version → List Version → Type 0
IsPrefix shorter longer = (rest : List Version) × (longer ≡ shorter ++ rest)

-- the versions are numbered from n on, and all cards are of the design
abbrev pub IsRun : CardDesign → ℕ → List Version → Type 0
IsRun design n [] = Unit {0}
IsRun design n (v ∷ vs) = (v.version ≡ n) × (v.cards.design ≡ design) × IsRun design (n + 1) vs

-- entry k has version k, and its cards are of the design of those of entry 0
abbrev pub IsPublished : List Version → Type 0
IsPublished [] = Unit {0}
IsPublished (v ∷ vs) = (v.version ≡ 0) × IsRun v.cards.design 1 vs

-- a list begins with each of these
abbrev pub BeginsWithAll : List Version → List (List Version) → Type 0
BeginsWithAll longer [] = Unit {0}
BeginsWithAll longer (l ∷ ls) = IsPrefix l longer × BeginsWithAll longer ls
