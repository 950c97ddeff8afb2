-- Characters of a name that are told one after another, and what of them waits to be put.
use Rattle.std.proofs.Common.{◌≡◌, ℕ, List, [], ◌∷◌, ◌++◌, length, map, Option, Result, IsUtf8, chars, refl, sym, ap, subst, ◌∙◌, append_assoc, append-nil}
use Rattle.std.specs.Char.{encode_utf8, is_control}
use Rattle.std.specs.List.{concat}
use Rattle.std.proofs.lemmas.Str.{chars-nil, chars_past_char, encodes-chars}
use Rattle.std.specs.Str.{encode_utf8_all}
use Rattle.mill_io.specs.Names.{shown_char, shown_name}
use Rattle.mill_io.specs.Takes.{TookAll, TookPart, Took}
use Rattle.mill_io.specs.inner.Waiting.{Waits}
use Rattle.mill_io.proofs.lemmas.Joined.{part_of_more, took_both, took_both_all, took_both_part, took_nothing}

nil_of : (text : List ℕ) → length text ≡ 0 → text ≡ []
nil_of [] none = refl
nil_of (b ∷ bs) none = absurd (cc none)

-- nothing is told of no character
pub shown_empty : (text : List ℕ) → length text ≡ 0 → shown_name text ≡ []
unfolding shown_name
shown_empty text none = rw (ap chars (nil_of text none) ∙ chars-nil) refl

pub shown_nil : shown_name [] ≡ []
shown_nil = shown_empty [] refl

-- the first character is told, and then the others
pub shown_step : (text rest : List ℕ) (c : ℕ) → IsUtf8 text → text ≡ encode_utf8 c ++ rest → shown_name text ≡ shown_char c ++ shown_name rest
unfolding shown_name
shown_step text rest c utf8 parts = rw (chars_past_char text rest c utf8 parts) refl

-- of what was told so far a part was put, the rest waits, and so much is to come
abbrev pub IsTold : Option (List ℕ) → Option (List ℕ) → List ℕ → List ℕ → List ℕ → Type 0
IsTold before now waits rest name = (gone : List ℕ) × TookAll before now gone × (gone ++ (waits ++ shown_name rest) ≡ shown_name name)

pub told_none : (taken : Option (List ℕ)) (waits rest name : List ℕ) → waits ≡ [] → rest ≡ name → IsTold taken taken waits rest name
told_none taken waits rest name empty whole = ([], took_nothing taken, ap (λ w. w ++ shown_name rest) empty ∙ ap shown_name whole)

pub told_step : (before middle now : Option (List ℕ)) (waited waits text rest name : List ℕ) (c : ℕ) → IsUtf8 text → text ≡ encode_utf8 c ++ rest
    → IsTold before middle waited text name → Waits middle waited now waits (shown_char c) → IsTold before now waits rest name
told_step before middle now waited waits text rest name c utf8 parts told more = (
  told.0 ++ more.0,
  took_both_all before middle now told.0 more.0 told.1 more.1,
  append_assoc told.0 more.0 (waits ++ shown_name rest)
      ∙ ap (λ l. told.0 ++ l) (sym (append_assoc more.0 waits (shown_name rest)) ∙ ap (λ l. l ++ shown_name rest) more.2
      ∙ append_assoc waited (shown_char c) (shown_name rest) ∙ ap (λ l. waited ++ l) (sym (shown_step text rest c utf8 parts)))
      ∙ told.2,
)

-- what waits was put in part
pub told_in_part : (before middle now : Option (List ℕ)) (waits rest name : List ℕ) → IsTold before middle waits rest name → TookPart middle now waits
    → TookPart before now (shown_name name)
told_in_part before middle now waits rest name told part =
    subst (λ (l : List ℕ). TookPart before now l) (append_assoc told.0 waits (shown_name rest) ∙ told.2)
    (part_of_more before now (told.0 ++ waits) (shown_name rest) (took_both_part before middle now told.0 waits told.1 part))

-- nothing is to come, and what waits was put, whatever the answer is
pub told_whole : {T E : Type 0} (before middle now : Option (List ℕ)) (waits rest name : List ℕ) (r : Result T E) → length rest ≡ 0
    → IsTold before middle waits rest name → Took middle now waits r → Took before now (shown_name name) r
told_whole before middle now waits rest name r none told last =
    subst (λ (l : List ℕ). Took before now l r)
    (ap (λ l. told.0 ++ l) (sym (append-nil waits)) ∙ ap (λ l. told.0 ++ (waits ++ l)) (sym (shown_empty rest none)) ∙ told.2)
    (took_both before middle now told.0 waits r told.1 last)

-- a piece was added to what waits
pub waits_more : (taken : Option (List ℕ)) (waited waits piece : List ℕ) → waits ≡ waited ++ piece → Waits taken waited taken waits piece
waits_more taken waited waits piece is = ([], took_nothing taken, is)

-- what waited was put, and the piece waits
pub waits_anew : (before now : Option (List ℕ)) (waited waits piece : List ℕ) → TookAll before now waited → waits ≡ piece → Waits before waited now waits piece
waits_anew before now waited waits piece all is = (waited, all, ap (λ l. waited ++ l) is)
