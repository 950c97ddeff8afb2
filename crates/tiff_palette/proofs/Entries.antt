-- The first entry that has a tag.
use Rattle.std.proofs.Common.{◌≡◌, ◌≢◌, ℕ, ◌+◌, ◌-◌, ◌<◌, ◌==◌, Bool, List, [], ◌∷◌, ◌++◌, map, find, Some, None, refl, ap, ◌∙◌, if◌then◌else◌, arith}
use Rattle.std.specs.List.{range_with_len}
use Rattle.std.specs.Option.{option_or}
use Rattle.std.proofs.lemmas.Bool.{eq-eqb, ne_eqb}
use Rattle.std.proofs.lemmas.List.{map-append}
use Rattle.std.proofs.lemmas.List.Folds.{find-append}
use Rattle.tiff_palette.specs.declared.entry.Entry.{Entry}
use Rattle.tiff_palette.specs.Directories.{entry_at, entry_place, first_entries}
use Rattle.mill_base.proofs.lemmas.Ranges.{range_more, range_at}

abbrev has_tag : ℕ → Entry → Bool
has_tag tag entry = entry.tag == tag

abbrev entry_of : List ℕ → ℕ → Entry
entry_of bytes k = entry_at bytes (entry_place bytes k)

find_behind : (tag : ℕ) (xs ys : List Entry) → find (has_tag tag) xs ≡ None → find (has_tag tag) (xs ++ ys) ≡ find (has_tag tag) ys
find_behind tag xs ys none = find-append (has_tag tag) xs ys ∙ ap (λ o. option_or o (find (has_tag tag) ys)) none

-- no entry below k has the tag, and entry k has not
pub none_more : (bytes : List ℕ) (tag k : ℕ) → find (has_tag tag) (first_entries bytes k) ≡ None → (entry_at bytes (entry_place bytes k)).tag ≢ tag
    → find (has_tag tag) (first_entries bytes (k + 1)) ≡ None
unfolding first_entries
none_more bytes tag k before other =
    ap (λ xs. find (has_tag tag) (map (entry_of bytes) xs)) (range_more 0 k k (omega arith)) ∙ ap (find (has_tag tag)) (map-append (entry_of bytes) (range_with_len 0 k) (k ∷ []))
    ∙ find_behind tag (map (entry_of bytes) (range_with_len 0 k)) (entry_of bytes k ∷ []) before
    ∙ ap (λ (b : Bool). if b then Some (entry_of bytes k) else None) (ne_eqb (entry_of bytes k).tag tag other)

-- no entry below k has the tag, and entry k has it
pub first_here : (bytes : List ℕ) (tag k n : ℕ) → find (has_tag tag) (first_entries bytes k) ≡ None → (entry_at bytes (entry_place bytes k)).tag ≡ tag → k < n
    → find (has_tag tag) (first_entries bytes n) ≡ Some (entry_at bytes (entry_place bytes k))
unfolding first_entries
first_here bytes tag k n before here below =
    let above = map (entry_of bytes) (range_with_len (k + 1) (n - k - 1)) in
    ap (λ xs. find (has_tag tag) (map (entry_of bytes) xs)) (range_at k n below)
    ∙ ap (find (has_tag tag)) (map-append (entry_of bytes) (range_with_len 0 k) (k ∷ range_with_len (k + 1) (n - k - 1)))
    ∙ find_behind tag (map (entry_of bytes) (range_with_len 0 k)) (entry_of bytes k ∷ above) before
    ∙ ap (λ (b : Bool). if b then Some (entry_of bytes k) else find (has_tag tag) above) (eq-eqb (entry_of bytes k).tag tag here)

pub no_entries : (bytes : List ℕ) (tag : ℕ) → find (has_tag tag) (first_entries bytes 0) ≡ None
unfolding first_entries
no_entries bytes tag = refl
