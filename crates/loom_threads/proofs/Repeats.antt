-- Repeats that are woven from cards.
use Rattle.std.proofs.Common.{◌≡◌, ◌+◌, ◌-◌, ◌<◌, ◌≤◌, ℕ, zero, suc, Bool, true, false, List, [], ◌∷◌, ◌++◌, length, length-append, get_or, Option, Some, None, IfSome, Bor, if◌then◌else◌, refl, ap, sym, subst, ◌∙◌, arith}
use Rattle.std.specs.Prelude.{All, slice_get, is_some}
use Rattle.std.specs.Option.{ForSome, option_copied, option_map}
use Rattle.std.proofs.lemmas.List.{ext_get_or, get_or-append-add}
use Rattle.std.proofs.lemmas.Option.{slice_get-get_or}
use Rattle.mill_base.specs.declared.face.Face.{Face}
use Rattle.draft_model.specs.Cloths.{ClothCells}
use Rattle.card_image.specs.Sets.{CardsValue}
use Rattle.loom_machine.specs.Machines.{MachineValue}
use Rattle.version_journal.specs.declared.run_log.Repeat.{Repeat}
use Rattle.loom_threads.specs.Lifts.{cloth_from}
use Rattle.loom_threads.specs.inner.Weavers.{HasRows, HasSize, IsOfCloth, KeepsLast}
use Rattle.loom_threads.proofs.Lifting.{cloth_is}

-- two cloths of one size with the same rows
pub same_cloth : (one other : ClothCells) → one.ends ≡ other.ends → length one.rows ≡ length other.rows
    → ((k : ℕ) → k < length other.rows → get_or one.rows k [] ≡ get_or other.rows k []) → one ≡ other
same_cloth one other wide high rows =
    cloth_is one other.ends other.rows wide (ext_get_or [] one.rows other.rows high (λ k h. rows k (subst (λ n. k < n) high h)))

same_some : {A : Type 0} (a b : A) → Some a ≡ Some b → a ≡ b
same_some a b e = cc

-- the cloth of a repeat has the size of the room for a copy
pub room_fits : (ends picks : ℕ) (room : Option ClothCells) (cloth : ClothCells) (woven : Repeat) → ForSome room (HasSize ends picks) → HasSize ends picks cloth
    → IsOfCloth (is_some room) cloth woven → IfSome room (λ room. ForSome woven.rows (HasSize room.ends (length room.rows)))
room_fits ends picks None cloth woven fits size of = tt
room_fits ends picks (Some room) cloth woven fits size of = λ rows is.
    let there = fits room refl in
    let e : rows ≡ cloth = same_some rows cloth (sym is ∙ of.rows) in
    record { wide = ap (λ (z : ClothCells). z.ends) e ∙ size.wide ∙ sym there.wide; high = ap (λ (z : ClothCells). length z.rows) e ∙ size.high ∙ sym there.high }

-- the last repeat is of the cards that are kept
pub last_is_kept : (result : Option (Bor Repeat)) (repeats : List Repeat) (kept : Option CardsValue) (cards : CardsValue)
    → option_copied result ≡ slice_get repeats (length repeats - 1) → kept ≡ Some cards
    → ForSome result (λ last. (machine : MachineValue) (face : Face) (shown : Bool) → KeepsLast machine face shown kept repeats → IsOfCloth shown (cloth_from machine face cards) last.now)
last_is_kept result repeats kept cards is same last e machine face shown keeps = keeps cards same last.now (sym is ∙ ap option_copied e)

-- there is room for rows exactly where they are shown
pub room_where_shown : (shown : Bool) (spare ready : ℕ) (room : Bool) → 0 < spare → ready ≡ (if shown then spare else 0)
    → (room ≡ true → 0 < ready) → (0 < ready → room ≡ true) → room ≡ shown
room_where_shown true spare ready room some is one other = other (omega arith)
room_where_shown false spare ready true some is one other = let low : 0 < ready = one refl in absurd (omega arith)
room_where_shown false spare ready false some is one other = refl

pub ready_less : (shown : Bool) (spare ready now : ℕ) → ready ≡ (if shown then spare else 0) → now ≡ ready - 1 → now ≡ (if shown then spare - 1 else 0)
ready_less true spare ready now is less = omega arith
ready_less false spare ready now is less = omega arith

-- the last of a list
pub last_item : {X : Type 0} (xs : List X) (x : X) → slice_get (xs ++ x ∷ []) (length (xs ++ x ∷ []) - 1) ≡ Some x
last_item xs x =
    let long : length (xs ++ x ∷ []) ≡ length xs + 1 = length-append xs (x ∷ []) in
    let place : length (xs ++ x ∷ []) - 1 ≡ length xs + 0 = omega (arith, long) in
    slice_get-get_or (xs ++ x ∷ []) (length (xs ++ x ∷ []) - 1) x (omega (arith, long))
    ∙ ap (λ k. Some (get_or (xs ++ x ∷ []) k x)) place ∙ ap Some (get_or-append-add xs (x ∷ []) 0 x)

none_is_not_some : {A B : Type 0} (x : A) → None ≡ Some x → B
none_is_not_some x e = absurd (cc e)

-- a repeat of a cloth has rows of its size where they are shown
pub rows_fit : (ends picks : ℕ) (shown : Bool) (cloth : ClothCells) (woven : Repeat) → IsOfCloth shown cloth woven → HasSize ends picks cloth → HasRows ends picks shown woven
rows_fit ends picks true cloth woven of size = record {
  there = ap is_some of.rows;
  size = λ rows e. subst (HasSize ends picks) (same_some cloth rows (sym of.rows ∙ e)) size;
}
rows_fit ends picks false cloth woven of size = record { there = ap is_some of.rows; size = λ rows e. none_is_not_some rows (sym of.rows ∙ e) }

-- the cards of the repeat that was added are kept
pub keeps_new : {C : Type 0} (value : C → CardsValue) (machine : MachineValue) (face : Face) (shown : Bool) (kept : Option C) (cards : CardsValue) (repeats : List Repeat) (woven : Repeat)
    → ForSome kept (λ owner. value owner ≡ cards) → IsOfCloth shown (cloth_from machine face cards) woven
    → KeepsLast machine face shown (option_map value kept) (repeats ++ woven ∷ [])
keeps_new value machine face shown None cards repeats woven same of = λ owner e. none_is_not_some owner e
keeps_new value machine face shown (Some owner) cards repeats woven same of = λ one e last at.
    let is : one ≡ cards = same_some one (value owner) (sym e) ∙ same owner refl in
    subst (λ (z : CardsValue). IsOfCloth shown (cloth_from machine face z) last) (sym is)
    (subst (λ (z : Repeat). IsOfCloth shown (cloth_from machine face cards) z) (same_some woven last (sym (last_item repeats woven) ∙ at)) of)

pub all_one : {X : Type 0} (P : X → Type 0) (x : X) → P x → All P (x ∷ [])
all_one P x p zero d h = p
all_one P x p (suc i) d h = absurd (omega arith)
