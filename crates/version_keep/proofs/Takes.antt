-- The acts of a block, one after another.
use Rattle.std.proofs.Common.{◌≡◌, ◌≢◌, ◌⊎◌, inl, inr, ◌+◌, ◌<◌, ◌≤◌, ◌==◌, ◌&&◌, ℕ, zero, suc, Bool, true, false, not, List, [], ◌∷◌, ◌++◌, length, take, drop, get_or, refl, sym, ap, subst, ◌∙◌, arith, append_assoc, append-nil, length-append, sum_by}
use Rattle.std.proofs.lemmas.List.Sums.{sum_by-take-le}
use Rattle.session_file.specs.declared.session.ShiftPlan.{ShiftPlan}
use Rattle.std.proofs.lemmas.Bool.{cases_eq}
use Rattle.std.proofs.lemmas.List.{drop_more, length-drop, length-map, take_more}
use Rattle.block_journal.specs.declared.mark.Mark.{Mark}
use Rattle.block_journal.specs.Journals.{AllGood, joined}
use Rattle.version_journal.specs.Entries.{is_accepted}
use Rattle.version_journal.specs.declared.entry.Entry.{Entry}
use Rattle.session_file.specs.declared.session.Session.{Session}
use Rattle.session_file.specs.Plans.{acts_in}
use Rattle.version_keep.specs.Blocks.{acts_below, allowed, mark_of, marks_of, is_next, is_next_of_painter, lacks_acts, reply_to}
use Rattle.version_keep.specs.Doings.{ends, is_taken}
use Rattle.version_keep.proofs.Marked.{eq_no, eq_yes, lacks_below}

-- no mark is left
abbrev pub is_end : List Mark → Bool
is_end [] = true
is_end (mark ∷ more) = false

-- what is still to be seen of a block
abbrev pub Rest : Session → List Mark → List Mark → List Mark → List Mark → Type 0
Rest session before block done [] = (0 < length block → allowed session before block ≡ true)
Rest session before block done (mark ∷ more) = allowed session before block ≡ allowed session done (mark ∷ more)

refused : (session : Session) (before : List Mark) (mark : Mark) (more : List Mark) (b : Bool) → is_taken session before mark (is_end more) ≡ b → b ≡ false
    → allowed session before (mark ∷ more) ≡ false
refused session before mark [] b is isnt = by (is_next session before mark) (is_accepted (reply_to session before mark)) (is ∙ isnt) where
  by : (x y : Bool) → (x && ends y true) ≡ false → (x && y) ≡ false
  by false y e = refl
  by true false e = refl
  by true true e = e
refused session before mark (next ∷ more) b is isnt =
    by (is_next session before mark) (is_accepted (reply_to session before mark)) (allowed session (before ++ mark ∷ []) (next ∷ more)) (is ∙ isnt) where
      by : (x y z : Bool) → (x && ends y false) ≡ false → (x && (not y && z)) ≡ false
      by false y z e = refl
      by true true z e = refl
      by true false z e = absurd cc

-- a mark that was taken: what is still to be seen is what stands behind it
pub rest_more : (session : Session) (before block done : List Mark) (mark : Mark) (more : List Mark) → is_taken session done mark (is_end more) ≡ true
    → Rest session before block done (mark ∷ more) → Rest session before block (done ++ mark ∷ []) more
rest_more session before block done mark [] taken rest = λ some.
    rest ∙ by (is_next session done mark) (is_accepted (reply_to session done mark)) taken where
      by : (x y : Bool) → (x && ends y true) ≡ true → (x && y) ≡ true
      by false y e = e
      by true false e = e
      by true true e = e
rest_more session before block done mark (next ∷ more) taken rest =
    rest ∙ by (is_next session done mark) (is_accepted (reply_to session done mark)) (allowed session (done ++ mark ∷ []) (next ∷ more)) taken where
      by : (x y z : Bool) → (x && ends y false) ≡ true → (x && (not y && z)) ≡ z
      by false y z e = absurd cc
      by true true z e = absurd cc
      by true false z e = refl

-- a mark that was not taken
pub rest_none : (session : Session) (before block done : List Mark) (mark : Mark) (more : List Mark) → is_taken session done mark (is_end more) ≡ false
    → Rest session before block done (mark ∷ more) → allowed session before block ≡ false
rest_none session before block done mark more isnt rest = rest ∙ refused session done mark more false isnt refl

pub rest_first : (session : Session) (before done block : List Mark) → done ≡ before → Rest session before block done block
rest_first session before done [] same = λ some. absurd (omega (arith, some))
rest_first session before done (mark ∷ more) same = ap (λ (l : List Mark). allowed session l (mark ∷ more)) (sym same)

pub rest_end : (session : Session) (before block done : List Mark) (n : ℕ) → length block ≤ n → Rest session before block done (drop n block) → 0 < length block → allowed session before block ≡ true
rest_end session before block done n past rest = at_end (drop n block) (omega (arith, past, length-drop n block)) rest where
  at_end : (l : List Mark) → length l ≡ 0 → Rest session before block done l → 0 < length block → allowed session before block ≡ true
  at_end [] none rest = rest
  at_end (m ∷ l) none rest = absurd (omega arith)

-- ---- how many marks a session allows

next_below : (session : Session) (before : List Mark) (mark : Mark) (rest : Bool) → (is_next session before mark && rest) ≡ true → length before < acts_in session.shifts
next_below session before mark rest e = omega (arith, lacks_below session mark.shift (length before) first, sum_by-take-le (λ (plan : ShiftPlan). sum_by length plan.painters) session.shifts (mark.shift + 1))
  where
    left : (x y z : Bool) → ((x && y) && z) ≡ true → x ≡ true
    left true y z e = refl
    left false y z e = e

    first : lacks_acts session mark.shift (length before) ≡ true
    first = left (lacks_acts session mark.shift (length before)) (is_next_of_painter session before mark) rest e

pub allowed_few : (session : Session) (before block : List Mark) → allowed session before block ≡ true → length (before ++ block) ≤ acts_in session.shifts
allowed_few session before [] e = absurd cc
allowed_few session before (mark ∷ []) e = omega (arith, next_below session before mark (is_accepted (reply_to session before mark)) e, length-append before (mark ∷ []))
allowed_few session before (mark ∷ next ∷ more) e =
    omega (
      arith,
      ap length (append_assoc before (mark ∷ []) (next ∷ more)),
      allowed_few session (before ++ mark ∷ []) (next ∷ more)
          (last (is_next session before mark) (is_accepted (reply_to session before mark)) (allowed session (before ++ mark ∷ []) (next ∷ more)) e),
    ) where
      last : (x y z : Bool) → (x && (not y && z)) ≡ true → z ≡ true
      last false y z e = absurd cc
      last true true z e = absurd cc
      last true false z e = e

pub good_few : (session : Session) (before : List Mark) (blocks : List (List Mark)) → length before ≤ acts_in session.shifts → AllGood (allowed session) before blocks
    → length (before ++ joined blocks) ≤ acts_in session.shifts
good_few session before [] few good = omega (arith, few, length-append before [])
good_few session before (block ∷ blocks) few good =
    omega (arith, ap length (append_assoc before block (joined blocks)), good_few session (before ++ block) blocks (allowed_few session before block good.0.allowed) good.1)

-- the last mark is the one with none behind it
pub last_is : (block : List Mark) (n : ℕ) → n < length block → (n + 1 == length block) ≡ is_end (drop (n + 1) block)
last_is block n here = by (cases_eq (n + 1) (length block)) where
  no_mark : (l : List Mark) → length l ≡ 0 → is_end l ≡ true
  no_mark [] e = refl
  no_mark (m ∷ l) e = absurd (omega arith)

  some_mark : (l : List Mark) → 0 < length l → is_end l ≡ false
  some_mark [] e = absurd (omega arith)
  some_mark (m ∷ l) e = refl

  by : (n + 1 ≡ length block) ⊎ (n + 1 ≢ length block) → (n + 1 == length block) ≡ is_end (drop (n + 1) block)
  by (inl same) = eq_yes (n + 1) (length block) same ∙ sym (no_mark (drop (n + 1) block) (omega (arith, length-drop (n + 1) block, same)))
  by (inr other) =
      eq_no (n + 1) (length block) other ∙ sym (some_mark (drop (n + 1) block) (omega (arith, length-drop (n + 1) block, here, other)))

-- the mark at a place was not taken
pub stop_at : (session : Session) (before block done : List Mark) (at : ℕ) (d : Mark) (good : Bool) → at < length block → good ≡ is_taken session done (get_or block at d) (at + 1 == length block)
    → good ≡ false → Rest session before block done (drop at block) → false ≡ allowed session before block
stop_at session before block done at d good here is isnt rest =
    sym (rest_none session before block done (get_or block at d) (drop (at + 1) block)
    (subst (λ (b : Bool). is_taken session done (get_or block at d) b ≡ false) (last_is block at here) (sym is ∙ isnt))
    (subst (λ (l : List Mark). Rest session before block done l) (drop_more block at d here) rest))

-- the mark at a place was taken
pub marks_to : (before block done next : List Mark) (at : ℕ) (d : Mark) → at < length block → done ≡ before ++ take at block → next ≡ done ++ get_or block at d ∷ []
    → next ≡ before ++ take (at + 1) block
marks_to before block done next at d here so_far is =
    is ∙ ap (λ (l : List Mark). l ++ get_or block at d ∷ []) so_far ∙ append_assoc before (take at block) (get_or block at d ∷ [])
    ∙ ap (λ (l : List Mark). before ++ l) (sym (take_more block at d here))

pub rest_to : (session : Session) (before block done next : List Mark) (at : ℕ) (d : Mark) (good : Bool) → at < length block
    → good ≡ is_taken session done (get_or block at d) (at + 1 == length block) → good ≡ true → next ≡ done ++ get_or block at d ∷ [] → Rest session before block done (drop at block)
    → Rest session before block next (drop (at + 1) block)
rest_to session before block done next at d good here is taken next_is rest =
    subst (λ (l : List Mark). Rest session before block l (drop (at + 1) block)) (sym next_is)
    (rest_more session before block done (get_or block at d) (drop (at + 1) block)
    (subst (λ (b : Bool). is_taken session done (get_or block at d) b ≡ true) (last_is block at here) (sym is ∙ taken))
    (subst (λ (l : List Mark). Rest session before block done l) (drop_more block at d here) rest))

-- a block that is allowed has room among the acts
pub block_fits : (session : Session) (entries block : List Entry) → allowed session (marks_of entries) (marks_of block) ≡ true → length entries + length block ≤ acts_in session.shifts
block_fits session entries block good =
    omega (arith, allowed_few session (marks_of entries) (marks_of block) good, length-append (marks_of entries) (marks_of block), length-map entries mark_of, length-map block mark_of)

-- where a mark is next, there is room for one act more
pub room_for_next : (session : Session) (before : List Mark) (mark : Mark) → is_next session before mark ≡ true → length before < acts_in session.shifts
room_for_next session before mark e = next_below session before mark true (ap (λ (b : Bool). b && true) e)
