-- Faults that are told at some byte and then stay.
use Rattle.std.proofs.Common.{◌≡◌, ⊎_elim, ℕ, ◌<◌, ◌≤◌, Bool, true, false, cond, ◌||◌, List, ◌++◌, length, length-append, take, Option, Some, None, sym, ap, refl, ◌∙◌, arith}
use Rattle.std.proofs.lemmas.List.{take-append-le}
use Rattle.std.proofs.lemmas.Bool.{cases_lt, le-leb, lt-leb}
use Rattle.mill_base.specs.declared.face.Face.TheVariants.{Up, Down}
use Rattle.std.specs.Option.{option_or}
use Rattle.card_image.specs.Places.{magic}
use Rattle.card_image.specs.Faults.{begins, once, magic_fault}
use Rattle.card_image.specs.declared.fault.ChainFault.{ChainFault}
use Rattle.card_image.specs.declared.fault.ChainFault.TheVariants.{BadMagic}
use Rattle.card_image.proofs.Firsts.{or_some, or_next}
use Rattle.card_image.proofs.Alike.{begins_not}

-- Nothing is told of fewer than `from` bytes, all is told of the first `to`, and what is told stays.
pub record Told (tells : List ℕ → Option ChainFault) (from to : ℕ) : Type 0 where
  pub early : (xs : List ℕ) → length xs < from → tells xs ≡ None
  pub late : (xs ys : List ℕ) → to ≤ length xs → tells (xs ++ ys) ≡ tells xs
  pub stays : (xs ys : List ℕ) (f : ChainFault) → tells xs ≡ Some f → tells (xs ++ ys) ≡ Some f

-- one part after another: the first is told whole before the second tells anything
pub told_both : (F G : List ℕ → Option ChainFault) (a b g c : ℕ) → Told F a b → Told G g c → a ≤ g → b ≤ g → b ≤ c → Told (λ xs. option_or (F xs) (G xs)) a c
told_both F G a b g c one other start after end = record {
  early = λ xs short. or_next (F xs) (G xs) (one.early xs short) ∙ other.early xs (omega arith);
  late = λ xs ys long. ap (λ o. option_or o (G (xs ++ ys))) (one.late xs ys (omega arith)) ∙ ap (option_or (F xs)) (other.late xs ys long);
  stays = λ xs ys f is. split (F xs) xs ys f refl is;
} where
  later : (xs ys : List ℕ) (f : ChainFault) → F xs ≡ None → G xs ≡ Some f → (g ≤ length xs) → option_or (F (xs ++ ys)) (G (xs ++ ys)) ≡ Some f
  later xs ys f none is long = or_next (F (xs ++ ys)) (G (xs ++ ys)) (one.late xs ys (omega arith) ∙ none) ∙ other.stays xs ys f is

  far : (xs : List ℕ) (f : ChainFault) → G xs ≡ Some f → g ≤ length xs
  far xs f is = ⊎_elim
      (λ (short : length xs < g). let e : None ≡ Some f = sym (other.early xs short) ∙ is in absurd (cc))
      (λ (long : g ≤ length xs). long)
      (cases_lt (length xs) g)

  split : (o : Option ChainFault) (xs ys : List ℕ) (f : ChainFault) → F xs ≡ o → option_or (F xs) (G xs) ≡ Some f → option_or (F (xs ++ ys)) (G (xs ++ ys)) ≡ Some f
  split None xs ys f none is =
      let told : G xs ≡ Some f = sym (or_next (F xs) (G xs) none) ∙ is in
      later xs ys f none told (far xs f told)
  split (Some x) xs ys f some is =
      let same : Some x ≡ Some f = sym (or_some (F xs) (G xs) x some) ∙ is in
      or_some (F (xs ++ ys)) (G (xs ++ ys)) f (one.stays xs ys f (some ∙ same))

pub once_yes : (xs : List ℕ) (end : ℕ) (f : Option ChainFault) → end ≤ length xs → once xs end f ≡ f
once_yes xs end f there = ap (λ b. cond b f None) (le-leb end (length xs) there)

pub once_no : (xs : List ℕ) (end : ℕ) (f : Option ChainFault) → length xs < end → once xs end f ≡ None
once_no xs end f short = ap (λ b. cond b f None) (lt-leb end (length xs) short)

-- what is told as soon as its bytes are there, by these bytes alone
pub told_once : (end : ℕ) (tells : List ℕ → Option ChainFault) → ((xs ys : List ℕ) → end ≤ length xs → tells (xs ++ ys) ≡ tells xs)
    → Told (λ xs. once xs end (tells xs)) end end
told_once end tells same = record {
  early = λ xs short. once_no xs end (tells xs) short;
  late = λ xs ys long. let n = length-append xs ys in
      once_yes (xs ++ ys) end (tells (xs ++ ys)) (omega arith) ∙ same xs ys long ∙ sym (once_yes xs end (tells xs) long);
  stays = λ xs ys f is. ⊎_elim
      (λ (short : length xs < end). let e : None ≡ Some f = sym (once_no xs end (tells xs) short) ∙ is in absurd (cc))
      (λ (long : end ≤ length xs). let n = length-append xs ys in
      once_yes (xs ++ ys) end (tells (xs ++ ys)) (omega arith) ∙ same xs ys long ∙ sym (once_yes xs end (tells xs) long) ∙ is)
      (cases_lt (length xs) end);
}

pub told_magic : Told (λ xs. magic_fault (take 4 xs)) 0 4
told_magic = record {
  early = λ xs short. absurd (omega arith);
  late = λ xs ys long. ap magic_fault (take-append-le 4 xs ys long);
  stays = λ xs ys f is. split (begins (take 4 xs) (magic Up)) (begins (take 4 xs) (magic Down)) xs ys f refl refl is;
} where
  split : (b c : Bool) (xs ys : List ℕ) (f : ChainFault) → begins (take 4 xs) (magic Up) ≡ b → begins (take 4 xs) (magic Down) ≡ c
      → cond (begins (take 4 xs) (magic Up) || begins (take 4 xs) (magic Down)) None (Some BadMagic) ≡ Some f
      → cond (begins (take 4 (xs ++ ys)) (magic Up) || begins (take 4 (xs ++ ys)) (magic Down)) None (Some BadMagic) ≡ Some f
  split true c xs ys f up down is =
      let e : None ≡ Some f = ap (λ b. cond (b || begins (take 4 xs) (magic Down)) None (Some BadMagic)) (sym up) ∙ is in absurd (cc)
  split false true xs ys f up down is =
      let e : None ≡ Some f = ap (λ b. cond (false || b) None (Some BadMagic)) (sym down) ∙ (ap (λ b. cond (b || begins (take 4 xs) (magic Down)) None (Some BadMagic)) (sym up) ∙ is) in absurd (cc)
  split false false xs ys f up down is =
      let u = begins_not 4 xs ys (magic Up) up in
      let d = begins_not 4 xs ys (magic Down) down in
      ap (λ b. cond (b || begins (take 4 (xs ++ ys)) (magic Down)) None (Some BadMagic)) u
      ∙ ap (λ b. cond (false || b) None (Some BadMagic)) d
      ∙ (ap (λ b. cond (false || b) None (Some BadMagic)) (sym down) ∙ (ap (λ b. cond (b || begins (take 4 xs) (magic Down)) None (Some BadMagic)) (sym up) ∙ is))
