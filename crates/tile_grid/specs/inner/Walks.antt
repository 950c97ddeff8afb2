-- A window that is carried round a line of places, each of some kind.
use Rattle.std.specs.Prelude.{ℕ, ◌+◌, ◌-◌, ◌*◌, ◌%◌, ◌==◌, Bool, ◌&&◌, ◌||◌, List, length, slice_index}
use Rattle.mill_base.specs.Below.{any_below, count_below}

-- place d of the window round x: the window begins `limit` places before x, and has 2 * limit + 1 places
abbrev pub window_place : ℕ → ℕ → ℕ → ℕ → ℕ
window_place n limit x d = (x + n * limit - limit + d) % n

-- place d of the window round x has kind b
abbrev pub is_kind_at : List ℕ → ℕ → ℕ → ℕ → ℕ → Bool
is_kind_at kinds limit x b d = slice_index kinds (window_place (length kinds) limit x d) == b

-- how many places of the window round x have kind b
abbrev pub count_at : List ℕ → ℕ → ℕ → ℕ → ℕ
count_at kinds limit x b = count_below (is_kind_at kinds limit x b) (2 * limit + 1)

-- a and b are one kind, or the window round some place below `upto` of kind a has a place of kind b
abbrev pub near_so_far : List ℕ → ℕ → ℕ → ℕ → ℕ → Bool
near_so_far kinds limit upto a b = a == b || any_below (λ x. slice_index kinds x == a && any_below (is_kind_at kinds limit x b) (2 * limit + 1)) upto
