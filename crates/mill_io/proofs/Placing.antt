-- Files in places whose room was made before.
use Rattle.std.proofs.Common.{◌≡◌, ◌≤◌, ◌<◌, ◌+◌, ◌⊎◌, inl, inr, ℕ, Bool, true, false, ◌&&◌, ◌||◌, List, [], ◌∷◌, ◌++◌, length, take, map, get_or, set, not, Option, Some, None, cond, nat_lt, nat_le, is_some, refl, sym, ap, subst, ◌∙◌, rules, find, position, bytes_eq, arith}
use Rattle.std.specs.List.{position_or_len, prefix_len, slice_get}
use Rattle.std.specs.Option.{option_map}
use Rattle.std.proofs.Math.ListN.{get_or-map}
use Rattle.std.proofs.Math.Seq.{take-set-lt}
use Rattle.std.proofs.lemmas.List.{get_or-take, length-map, length-take, map-append, map-set, take_more_set}
use Rattle.std.proofs.lemmas.List.Sums.{position_or_len_is}
use Rattle.std.proofs.lemmas.List.Folds.{find_at}
use Rattle.std.proofs.lemmas.List.Quantifiers.{position-Some}
use Rattle.std.proofs.lemmas.Option.{slice_get-get_or}
use Rattle.mill_io.specs.Files.{File, Stands, content_of}
use Rattle.mill_io.specs.Sure.{Placed, SureFiles, files_in, has_room}
use Rattle.mill_io.specs.declared.sure_shelf.TheConstants.{NAME_ROOM}
use Rattle.mill_io.proofs.Filing.{is_named, find_nothing, stands_behind, stands_in_place}

prefix_len-map : {X Y : Type 0} (f : X → Y) (p : Y → Bool) (xs : List X) → prefix_len p (map f xs) ≡ prefix_len (λ x. p (f x)) xs
prefix_len-map f p [] = refl
prefix_len-map f p (x ∷ xs) = rw (prefix_len-map f p xs) refl

-- whether the file of a place has the name
abbrev pub holds : List ℕ → Placed → Bool
holds name place = is_named name place.file

-- the first place of a name is that of its file
position_in : (name : List ℕ) (places : List Placed) → position (is_named name) (files_in places) ≡ position (holds name) places
position_in name places =
    rw (prefix_len-map (λ (place : Placed). place.file) (λ file. not (is_named name file)) places, length-map places (λ (place : Placed). place.file)) refl

-- no file has a name that no place holds
pub content_nowhere : (places : List Placed) (name : List ℕ) → None ≡ position (holds name) places → content_of (files_in places) name ≡ None
content_nowhere places name none =
    ap (option_map (λ (f : File). f.content)) (find_nothing (is_named name) (files_in places) (position_in name places ∙ sym none))

-- a name's content is that of the first place that holds it
pub content_at : (places : List Placed) (name : List ℕ) (at : ℕ) (d : Placed) → Some at ≡ position (holds name) places
    → content_of (files_in places) name ≡ Some (get_or places at d).file.content
content_at places name at d found =
    let files = files_in places in
    let first = position-Some (is_named name) files at d.file (position_in name places ∙ sym found) in
    let here = position_or_len_is (is_named name) files at d.file (omega (arith, first.0)) first.2 (λ _. first.1) in
    ap (option_map (λ (f : File). f.content))
    (find_at (is_named name) files ∙ ap (slice_get files) here ∙ slice_get-get_or files at d.file first.0 ∙ ap (λ f. Some f) (get_or-map (λ (place : Placed). place.file) places at d))

module _ (places seen : List Placed) (used : ℕ) (name content : List ℕ) (files : List File) (is : files_in (take used places) ≡ files) (known : seen ≡ places) where
  -- the content stands under the name in place of that of the first place that holds it
  pub placed_over : (at : ℕ) (before after : Placed) → Some at ≡ position (holds name) (take used seen) → before ≡ get_or places at before
      → after ≡ record { file = record { name = before.file.name; content = content }; room = before.room }
      → Stands files (files_in (take used (set places at after))) name content
  placed_over at before after found there set_is =
      let found_here : position (holds name) (take used places) ≡ Some at = sym (found ∙ ap (λ ps. position (holds name) (take used ps)) known) in
      let found_in : Some at ≡ position (is_named name) files = sym (ap (position (is_named name)) (sym is) ∙ position_in name (take used places) ∙ found_here) in
      let below = (position-Some (holds name) (take used places) at before found_here).0 in
      let in_use : at < used = omega (arith, below, length-take used places) in
      let same_before : before.file ≡ get_or files at before.file =
      ap (λ (p : Placed). p.file) (there ∙ sym (get_or-take used places at before in_use))
      ∙ sym (get_or-map (λ (place : Placed). place.file) (take used places) at before) ∙ ap (λ fs. get_or fs at before.file) is in
      let new_is : set files at after.file ≡ files_in (take used (set places at after)) =
      sym (ap files_in (take-set-lt used places at after in_use) ∙ map-set (λ (place : Placed). place.file) (take used places) at after ∙ ap (λ fs. set fs at after.file) is) in
      subst (λ new. Stands files new name content) new_is
      (stands_in_place files files name content at before.file after.file refl found_in same_before (ap (λ (p : Placed). p.file.name) set_is) (ap (λ (p : Placed). p.file.content) set_is))

  -- the content stands under the name in a place behind the others
  pub placed_behind : (after : Placed) (room : ℕ) → None ≡ position (holds name) (take used seen) → used < length places
      → after ≡ record { file = record { name = name; content = content }; room = room }
      → Stands files (files_in (take (used + 1) (set places used after))) name content
  placed_behind after room none left fill_is =
      let nowhere : None ≡ position (is_named name) files =
      none ∙ ap (λ ps. position (holds name) (take used ps)) known ∙ sym (position_in name (take used places)) ∙ ap (position (is_named name)) is in
      let new_is : files_in (take (used + 1) (set places used after)) ≡ files ++ after.file ∷ [] =
      ap files_in (take_more_set places used after left) ∙ map-append (λ (place : Placed). place.file) (take used places) (after ∷ []) ∙ ap (λ fs. fs ++ after.file ∷ []) is in
      stands_behind files files _ name content after.file refl nowhere new_is (ap (λ (p : Placed). p.file.name) fill_is) (ap (λ (p : Placed). p.file.content) fill_is)

  -- where a place holds the name, there is content under it
  pub content_there : (at : ℕ) (d : Placed) → Some at ≡ position (holds name) (take used seen) → is_some (content_of files name) ≡ true
  content_there at d found =
      ap (λ fs. is_some (content_of fs name)) (sym is)
      ∙ ap is_some (content_at (take used places) name at d (found ∙ ap (λ ps. position (holds name) (take used ps)) known))

  -- and else there is none
  pub content_missing : None ≡ position (holds name) (take used seen) → is_some (content_of files name) ≡ false
  content_missing none =
      ap (λ fs. is_some (content_of fs name)) (sym is)
      ∙ ap is_some (content_nowhere (take used places) name (none ∙ ap (λ ps. position (holds name) (take used ps)) known))

  -- where all places are in use, there are as many files
  pub all_used : length places ≤ used → length places ≤ length files
  all_used full = omega (arith, full, length-take used places, length-map (take used places) (λ (place : Placed). place.file), ap length is)

-- the bytes have room in the place of their name
pub room_there : (shelf : SureFiles) (name bytes : List ℕ) → length bytes ≤ shelf.room → is_some (content_of shelf.files name) ≡ true → true ≡ has_room shelf name bytes
room_there shelf name bytes few there = let few_is : nat_le (length bytes) shelf.room ≡ true = search (rules, few) in rw (few_is, there) refl

-- there is no place for them
pub room_nowhere : (shelf : SureFiles) (name bytes : List ℕ) → is_some (content_of shelf.files name) ≡ false
    → (shelf.places ≤ length shelf.files) ⊎ (NAME_ROOM < length name) → false ≡ has_room shelf name bytes
room_nowhere shelf name bytes missing none =
    let none_is : (nat_le (length name) NAME_ROOM && nat_lt (length shelf.files) shelf.places) ≡ false = none_left (length name) (length shelf.files) shelf.places none in
    rw (missing, none_is) (sym (and_false (nat_le (length bytes) shelf.room))) where
      none_left : (n used places : ℕ) → (places ≤ used) ⊎ (NAME_ROOM < n) → (nat_le n NAME_ROOM && nat_lt used places) ≡ false
      none_left n used places none = grind arith

      and_false : (b : Bool) → (b && false) ≡ false
      and_false true = refl
      and_false false = refl
