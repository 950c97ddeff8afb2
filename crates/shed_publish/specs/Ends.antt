-- What contracts see of the ends of a published list.
use Rattle.std.specs.Prelude.{◌≡◌, ◌≢◌, ℕ, List, [], ◌∷◌, ◌++◌, ◌⊎◌, length, drop}
use Rattle.mill_base.specs.Causes.{Rose, risen}
use Rattle.shed_publish.specs.Versions.{IsPrefix, IsPublished, BeginsWithAll}
use Rattle.shed_publish.specs.declared.newest.Version.{Version}

-- the desk's end: the published list, and how often it had no place for a reader
pub record DeskValue : Type 0 where
  pub list : List Version
  pub refused : ℕ

-- a loom's end: the list that it saw last, those that it learnt since, and how many of its readings gave a version and
-- how many none
pub record EndValue : Type 0 where
  pub list : List Version
  pub learnt : List (List Version)
  pub readings : ℕ
  pub missed : ℕ

-- an end that has seen and learnt nothing
abbrev pub new_end : EndValue
new_end = record { list = []; learnt = []; readings = 0; missed = 0 }

-- the last entry of a list
abbrev pub EndsWith : List Version → Version → Type 0
EndsWith list v = (before : List Version) × (list ≡ before ++ v ∷ [])

-- whatever this end sees from now on begins with the told list: it has seen it, or has learnt it and seen nothing since
abbrev pub Knows : List Version → EndValue → Type 0
Knows told end = IsPrefix told end.list ⊎ ((end.list ≡ []) × (end.learnt ≡ told ∷ []))

-- this end has seen a published list that begins with all that it had seen and learnt
pub record SawMore (before now : EndValue) : Type 0 where
  pub learnt : now.learnt ≡ []
  pub published : IsPublished now.list
  pub later : IsPrefix before.list now.list
  pub told : BeginsWithAll now.list before.learnt

-- it has, or its lists are as before
abbrev pub SawOrStayed : EndValue → EndValue → Type 0
SawOrStayed before now = SawMore before now ⊎ ((now.list ≡ before.list) × (now.learnt ≡ before.learnt))

-- two lists are of different lengths, or have different entries from the place `known` on
abbrev pub Differ : ℕ → List Version → List Version → Type 0
Differ known one other = (length one ≢ length other) ⊎ (drop known one ≢ drop known other)

-- this end has seen such a list, and it differs from the told one; or its lists are as before, as a missed reading leaves
-- them
abbrev pub SawOther : ℕ → List Version → EndValue → EndValue → Type 0
SawOther known told before now =
    (SawMore before now × Differ known now.list told) ⊎ ((now.list ≡ before.list) × (now.learnt ≡ before.learnt))

-- a count stays, or one is added
abbrev pub OneMore : ℕ → ℕ → Type 0
OneMore before now = (now ≡ before) ⊎ (now ≡ risen before)

-- what an end has learnt of a told list: that list alone; or nothing, where the count of refused places rose
abbrev pub LearntOr : List Version → List (List Version) → ℕ → ℕ → Type 0
LearntOr told learnt before now = ((learnt ≡ told ∷ []) × (now ≡ before)) ⊎ ((learnt ≡ []) × Rose before now)
