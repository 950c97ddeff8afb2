-- What a value of a document must be. A check takes the value's path and yields its faults in their order.
use Rattle.std.specs.Prelude.{ℕ, ℤ, pos, int_le, nat_le, Bool, ◌&&◌, List, [], ◌∷◌, ◌++◌, length, Option, Some, None, if◌then◌else◌, bytes_eq}
use Rattle.std.specs.List.{list_any}
use Rattle.toml.specs.Data.{Data, as_integer, as_str}
use Rattle.session_rules.specs.declared.fault.SessionFault.{SessionFault}
use Rattle.session_rules.specs.declared.fault.SessionFaultKind.TheVariants.{Kind, Choice, Range, Count, Limit}
use Rattle.session_rules.specs.Faults.{fault}
use Rattle.session_rules.specs.Paths.{indexed}
use Rattle.session_rules.specs.Values.{list_in}

abbrev pub Check : Type 0
Check = List ℕ → Data → List SessionFault

-- a rule for values of one type: a value of another is of the wrong kind
abbrev pub typed : {A : Type 0} → (A → List SessionFault) → List ℕ → Option A → List SessionFault
typed rule path None = fault path Kind
typed rule path (Some x) = rule x

-- a whole number from the least to the greatest
abbrev pub between : ℕ → ℕ → List ℕ → ℤ → List SessionFault
between least greatest path z = if int_le (pos least) z && int_le z (pos greatest) then [] else fault path (Range z (pos least) (pos greatest))

unfoldable pub whole : ℕ → ℕ → Check
whole least greatest path d = typed (between least greatest path) path (as_integer d)

-- any text
unfoldable pub text : Check
text path d = typed (λ found. []) path (as_str d)

-- one of some words
abbrev pub is_among : List (List ℕ) → List ℕ → Bool
is_among words found = list_any (λ word. bytes_eq found word) words

abbrev pub among : List (List ℕ) → List ℕ → List ℕ → List SessionFault
among words path found = if is_among words found then [] else fault path Choice

unfoldable pub word : List (List ℕ) → Check
word words path d = typed (among words path) path (as_str d)

-- a list of so many items, each checked in its turn; the check of an item may look at the earlier ones
abbrev pub ItemCheck : Type 0
ItemCheck = List Data → Check

abbrev pub counted : ℕ → ℕ → List ℕ → ℕ → List SessionFault
counted least greatest path found = if nat_le least found && nat_le found greatest then [] else fault path (Count found least greatest)

abbrev pub each : ItemCheck → List ℕ → List Data → List Data → List SessionFault
each check path earlier [] = []
each check path earlier (d ∷ ds) = check earlier (indexed path (length earlier)) d ++ each check path (earlier ++ d ∷ []) ds

abbrev pub items_between : ℕ → ℕ → ItemCheck → List ℕ → List Data → List SessionFault
items_between least greatest check path ds = counted least greatest path (length ds) ++ each check path [] ds

unfoldable pub list_by : ℕ → ℕ → ItemCheck → Check
list_by least greatest check path d = typed (items_between least greatest check path) path (list_in d)

abbrev pub list : ℕ → ℕ → Check → Check
list least greatest check = list_by least greatest (λ earlier. check)

-- a list of any length
unfoldable pub any_list_by : ItemCheck → Check
any_list_by check path d = typed (each check path []) path (list_in d)

abbrev pub any_list : Check → Check
any_list check = any_list_by (λ earlier. check)

-- a list, whatever its items are
unfoldable pub array : Check
array path d = typed (λ ds. []) path (list_in d)

-- a number of the whole session that is at most so much
unfoldable pub at_most : List ℕ → ℕ → ℕ → List SessionFault
at_most path kept found = if nat_le found kept then [] else fault path (Limit kept found)
