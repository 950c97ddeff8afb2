-- The values that a document gives where it breaks no rule.
use Rattle.std.specs.Prelude.{ℕ, ℤ, pos, negsuc, List, [], ◌∷◌, ◌++◌, Option, option_map}
use Rattle.std.specs.Option.{option_map_or}
use Rattle.toml.specs.Data.{Data, Items, no_items, item, Members, no_members, as_integer, as_str, as_array, as_table, get_member}

-- the number of a whole number that is not negative
abbrev pub natural : ℤ → ℕ
natural (pos n) = n
natural (negsuc n) = 0

unfoldable pub number : Data → ℕ
number d = option_map_or natural (as_integer d) 0

-- a text
unfoldable pub text_in : Data → List ℕ
text_in d = option_map_or (λ found. found) (as_str d) []

-- what a text means
unfoldable pub meaning_in : {A : Type 0} → (List ℕ → A) → Data → A
meaning_in means d = option_map_or means (as_str d) (means [])

-- the items of an array
abbrev pub list_of : Items → List Data
list_of no_items = []
list_of (item d ds) = d ∷ list_of ds

abbrev pub list_in : Data → Option (List Data)
list_in d = option_map list_of (as_array d)

-- the values of the items, each beside the earlier items
abbrev pub each_value : {A : Type 0} → (List Data → Data → A) → List Data → List Data → List A
each_value value earlier [] = []
each_value value earlier (d ∷ ds) = value earlier d ∷ each_value value (earlier ++ d ∷ []) ds

unfoldable pub values_by : {A : Type 0} → (List Data → Data → A) → Data → List A
values_by value d = option_map_or (each_value value []) (list_in d) []

abbrev pub values : {A : Type 0} → (Data → A) → Data → List A
values value = values_by (λ earlier. value)

-- what the members of a table give
unfoldable pub members_give : {A : Type 0} → (Members → A) → Data → A
members_give value d = option_map_or value (as_table d) (value no_members)

-- the value at a key, or the default where the key is absent
unfoldable pub value_at : {A : Type 0} → List ℕ → (Data → A) → A → Members → A
value_at key value default ms = option_map_or value (get_member key ms) default
