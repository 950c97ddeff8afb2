-- The answers of a checker.
use Rattle.std.proofs.Common.{◌≡◌, inl, inr, ◌+◌, ◌<◌, ◌≤◌, ℕ, zero, suc, Bool, true, false, List, [], ◌∷◌, ◌++◌, length, take, drop, refl, sym, ap, subst, ◌∙◌, append-nil, arith}
use Rattle.std.proofs.lemmas.List.{take-append-drop}
use Rattle.version_journal.specs.declared.run_log.RunLog.{RunLog}
use Rattle.session_file.specs.declared.session.Session.{Session}
use Rattle.audit_model.specs.Audits.{IsNo, IsYes, lines_of}
use Rattle.audit_model.specs.Pieces.{IsLine, IsPiece, Plain}
use Rattle.audit_model.specs.Reads.{Cut, IsNext, MayCome, Reaches}
use Rattle.audit_model.specs.States.{State, log_of}
use Rattle.audit_model.proofs.Reached.{is_whole, may_pass, pass_may, read_whole}
use Rattle.audit_model.proofs.Verdicts.{cut_more, last_is, lines_line, no_end, no_here, no_rest_here}

-- what is known of the first line
pub record IsFirst (left : List ℕ) (size : ℕ) (is_line : Bool) : Type 0 where
  pub some : 0 < size
  pub within : size ≤ length left
  pub line : is_line ≡ true → IsLine (take size left)
  pub rest : is_line ≡ false → (size ≡ length left) × Plain left

take_all : (xs : List ℕ) (n : ℕ) → n ≡ length xs → take n xs ≡ xs
take_all [] zero h = refl
take_all [] (suc n) h = absurd (omega (arith, h))
take_all (x ∷ xs) zero h = absurd (omega (arith, h))
take_all (x ∷ xs) (suc n) h = ap (λ l. x ∷ l) (take_all xs n (omega (arith, h)))

pub drop_all : (xs : List ℕ) (n : ℕ) → n ≡ length xs → drop n xs ≡ []
drop_all [] zero h = refl
drop_all [] (suc n) h = absurd (omega (arith, h))
drop_all (x ∷ xs) zero h = absurd (omega (arith, h))
drop_all (x ∷ xs) (suc n) h = drop_all xs n (omega (arith, h))

pub piece_is : (left : List ℕ) (size : ℕ) (b : Bool) → IsFirst left size b → IsPiece (take size left)
piece_is left size true f = inl (f.line refl)
piece_is left size false f = inr (subst Plain (sym (take_all left size (f.rest refl).0)) (f.rest refl).1)

next_is : (left : List ℕ) (size : ℕ) (b : Bool) → IsFirst left size b → IsNext left (take size left) (drop size left)
next_is left size true f =
    let parts = take-append-drop size left in
    (sym parts, ap lines_of (sym parts) ∙ lines_line (take size left) (drop size left) (f.line refl))
next_is left size false f =
    let r = f.rest refl in
    subst (λ (l : List ℕ). IsNext left (take size left) l) (sym (drop_all left size r.0))
    (subst (λ (l : List ℕ). IsNext left l []) (sym (take_all left size r.0)) (last_is left r.1 (omega (arith, r.0, f.some))))

some_piece : (left : List ℕ) (size : ℕ) → 0 < size → size ≤ length left → 0 < length (take size left)
some_piece [] zero some within = absurd (omega (arith, some))
some_piece [] (suc size) some within = absurd (omega (arith, within))
some_piece (x ∷ left) zero some within = absurd (omega (arith, some))
some_piece (x ∷ left) (suc size) some within = omega arith

pub answer_here : (session : Session) (bytes read left : List ℕ) (s : State) (coming : List (List ℕ)) (k size : ℕ) (b : Bool) → Cut bytes k read left → IsFirst left size b
    → Reaches session read s coming → (MayCome session s coming (take size left) → ⊥) → IsNo session bytes k
answer_here session bytes read left s coming k size b c f r not =
    no_here session bytes read left (take size left) (drop size left) s coming k c (next_is left size b f) r
    (λ passes. not (pass_may session read s coming (take size left) r (piece_is left size b f) (some_piece left size f.some f.within) passes))

pub answer_rest : (session : Session) (bytes read left : List ℕ) (s : State) (coming : List (List ℕ)) (k size : ℕ) → Cut bytes k read left → IsFirst left size false
    → Reaches session read s coming → MayCome session s coming (take size left) → IsNo session bytes (k + 1)
answer_rest session bytes read left s coming k size c f r may =
    let is = f.rest refl in
    let some : 0 < length left = omega (arith, is.0, f.some) in
    no_rest_here session bytes read left s coming k c (last_is left is.1 some) is.1 some r
    (may_pass session read s coming left r (subst (λ (l : List ℕ). MayCome session s coming l) (take_all left size is.0) may))

pub cut_on : (bytes read left : List ℕ) (k size : ℕ) → Cut bytes k read left → IsFirst left size true → Cut bytes (k + 1) (read ++ take size left) (drop size left)
cut_on bytes read left k size c f = cut_more bytes read (take size left) (drop size left) k (subst (λ (l : List ℕ). Cut bytes k read l) (sym (take-append-drop size left)) c) (f.line refl)

pub answer_end : (session : Session) (bytes read : List ℕ) (s : State) (coming : List (List ℕ)) (k : ℕ) → Cut bytes k read [] → Reaches session read s coming
    → ((s.ended ≡ true) × (coming ≡ []) → ⊥) → IsNo session bytes k
answer_end session bytes read s coming k c r not = no_end session bytes read s coming k c r not

pub answer_yes : (session : Session) (bytes read : List ℕ) (s : State) (coming : List (List ℕ)) (k : ℕ) (log : RunLog) → Cut bytes k read [] → Reaches session read s coming
    → (s.ended ≡ true) × (coming ≡ []) → log ≡ log_of session s → IsYes session bytes log × ((other : RunLog) → IsYes session bytes other → other ≡ log)
answer_yes session bytes read s coming k log c r over is =
    let whole : bytes ≡ read = c.whole ∙ append-nil read in (
      subst (λ (l : RunLog). IsYes session bytes l) (sym is)
          (subst (λ (b : List ℕ). IsYes session b (log_of session s)) (sym whole) (read_whole session read s (subst (λ ls. Reaches session read s ls) over.1 r) over.0)),
      λ other y. (is_whole session read s coming other r y.0 (y.1 ∙ whole)).2 ∙ sym is,
    )

pub drop_add : (n m : ℕ) (xs : List ℕ) → drop m (drop n xs) ≡ drop (n + m) xs
drop_add n m [] = none n m where
  none : (n m : ℕ) → ◌≡◌ {A = List ℕ} (drop m (drop n [])) (drop (n + m) [])
  none n m = empty m n ∙ sym (drop_none (n + m)) where
    drop_none : (k : ℕ) → ◌≡◌ {A = List ℕ} (drop k []) []
    drop_none zero = refl
    drop_none (suc k) = refl

    empty : (m n : ℕ) → ◌≡◌ {A = List ℕ} (drop m (drop n [])) []
    empty m zero = drop_none m
    empty m (suc n) = drop_none m
drop_add zero m (x ∷ xs) = ap (λ k. drop k (x ∷ xs)) (let e : m ≡ 0 + m = omega arith in e)
drop_add (suc n) m (x ∷ xs) = drop_add n m xs ∙ ap (λ k. drop k (x ∷ xs)) (let e : suc (n + m) ≡ suc n + m = omega arith in e)

pub cut_at : (bytes read left : List ℕ) (at k : ℕ) → read ≡ take at bytes → left ≡ drop at bytes → Cut bytes k (take at bytes) (drop at bytes) → Cut bytes k read left
cut_at bytes read left at k a b c = subst (λ (l : List ℕ). Cut bytes k read l) (sym b) (subst (λ (r : List ℕ). Cut bytes k r (drop at bytes)) (sym a) c)
