-- From the lines to the answer.
use Rattle.std.proofs.Common.{◌≡◌, ◌≢◌, ◌+◌, ◌<◌, ◌≤◌, ℕ, zero, suc, true, cond, List, [], ◌∷◌, ◌++◌, length, length-append, take, refl, sym, ap, subst, ◌∙◌, append_assoc, append-nil, arith}
use Rattle.shift_model.proofs.lemmas.Lists.{All_tail}
use Rattle.session_file.specs.declared.session.Session.{Session}
use Rattle.audit_model.specs.Pieces.{IsLine, Plain}
use Rattle.audit_model.specs.Audits.{Begins, IsNo, Passes, first_lines, joined, lines_of, with_byte}
use Rattle.audit_model.specs.States.{State}
use Rattle.audit_model.specs.Reads.{Cut, IsNext, Reaches}
use Rattle.audit_model.proofs.Basics.{is_other}
use Rattle.audit_model.proofs.Reached.{is_whole, no_rest, passes_by, read_passes}

-- lines of plain bytes and a line feed
line_first : (f rest : List ℕ) → Plain f → lines_of ((f ++ 10 ∷ []) ++ rest) ≡ (f ++ 10 ∷ []) ∷ lines_of rest
line_first [] rest p = refl
line_first (x ∷ f) rest p =
    ap (λ b. cond b ((x ∷ []) ∷ lines_of ((f ++ 10 ∷ []) ++ rest)) (with_byte x (lines_of ((f ++ 10 ∷ []) ++ rest)))) (is_other x 10 (p 0 0 (omega arith)))
    ∙ ap (with_byte x) (line_first f rest (All_tail (λ b. b ≢ 10) x f p))

pub lines_line : (piece rest : List ℕ) → IsLine piece → lines_of (piece ++ rest) ≡ piece ∷ lines_of rest
lines_line piece rest (f, is, p) = subst (λ (l : List ℕ). lines_of (l ++ rest) ≡ l ∷ lines_of rest) (sym is) (line_first f rest p)

pub lines_rest : (x : ℕ) (piece : List ℕ) → Plain (x ∷ piece) → lines_of (x ∷ piece) ≡ (x ∷ piece) ∷ []
lines_rest x [] p = ap (λ b. cond b ((x ∷ []) ∷ []) (with_byte x [])) (is_other x 10 (p 0 0 (omega arith)))
lines_rest x (y ∷ piece) p =
    ap (λ b. cond b ((x ∷ []) ∷ lines_of (y ∷ piece)) (with_byte x (lines_of (y ∷ piece)))) (is_other x 10 (p 0 0 (omega arith)))
    ∙ ap (with_byte x) (lines_rest y piece (All_tail (λ b. b ≢ 10) x (y ∷ piece) p))

joined-append : (xs ys : List (List ℕ)) → joined (xs ++ ys) ≡ joined xs ++ joined ys
joined-append [] ys = refl
joined-append (x ∷ xs) ys = ap (λ l. x ++ l) (joined-append xs ys) ∙ sym (append_assoc x (joined xs) (joined ys))

take_all : (xs ys : List (List ℕ)) (n : ℕ) → length xs ≡ n → take n (xs ++ ys) ≡ xs
take_all [] ys zero h = by ys where
  by : (ys : List (List ℕ)) → take 0 ys ≡ []
  by [] = refl
  by (y ∷ ys) = refl
take_all [] ys (suc n) h = absurd (omega (arith, h))
take_all (x ∷ xs) ys zero h = absurd (omega (arith, h))
take_all (x ∷ xs) ys (suc n) h = ap (λ l. x ∷ l) (take_all xs ys n (omega (arith, h)))

-- the first lines are a front of more of them
fewer : (ls : List (List ℕ)) (j k : ℕ) → j ≤ k → Begins (joined (take j ls)) (joined (take k ls))
fewer [] zero zero h = ([], refl)
fewer [] zero (suc k) h = ([], refl)
fewer [] (suc j) zero h = absurd (omega arith)
fewer [] (suc j) (suc k) h = ([], refl)
fewer (l ∷ ls) zero k h = (joined (take k (l ∷ ls)), refl)
fewer (l ∷ ls) (suc j) zero h = absurd (omega arith)
fewer (l ∷ ls) (suc j) (suc k) h = let more = fewer ls j k (omega arith) in (more.0, ap (λ x. l ++ x) more.1 ∙ sym (append_assoc l (joined (take j ls)) more.0))

passes_fewer : (session : Session) (bytes : List ℕ) (j k : ℕ) → j ≤ k → Passes session (first_lines k bytes) → Passes session (first_lines j bytes)
passes_fewer session bytes j k h p = let more = fewer (lines_of bytes) j k h in passes_by session (first_lines k bytes) (first_lines j bytes) more.0 more.1 p

pub cut_start : (bytes : List ℕ) → Cut bytes 0 [] bytes
cut_start bytes = record { lines = []; count = refl; are = refl; told = refl; whole = refl }

pub cut_more : (bytes read piece rest : List ℕ) (k : ℕ) → Cut bytes k read (piece ++ rest) → IsLine piece → Cut bytes (k + 1) (read ++ piece) rest
cut_more bytes read piece rest k c h = record {
  lines = c.lines ++ piece ∷ [];
  count = omega (arith, c.count, length-append c.lines (piece ∷ []));
  are = c.are ∙ ap (λ l. c.lines ++ l) (lines_line piece rest h) ∙ sym (append_assoc c.lines (piece ∷ []) (lines_of rest));
  told = joined-append c.lines (piece ∷ []) ∙ ap (λ l. joined c.lines ++ l) (append-nil piece) ∙ ap (λ l. l ++ piece) c.told;
  whole = c.whole ∙ sym (append_assoc read piece rest);
}

pub next_line : (piece rest : List ℕ) → IsLine piece → IsNext (piece ++ rest) piece rest
next_line piece rest h = (refl, lines_line piece rest h)

pub next_rest : (x : ℕ) (piece : List ℕ) → Plain (x ∷ piece) → IsNext (x ∷ piece) (x ∷ piece) []
next_rest x piece p = (sym (append-nil (x ∷ piece)), lines_rest x piece p)

pub last_is : (piece : List ℕ) → Plain piece → 0 < length piece → IsNext piece piece []
last_is [] p h = absurd (omega arith)
last_is (x ∷ piece) p h = next_rest x piece p

lines_here : (bytes read left : List ℕ) (k : ℕ) → Cut bytes k read left → first_lines k bytes ≡ read
lines_here bytes read left k c = ap (λ l. joined (take k l)) c.are ∙ ap joined (take_all c.lines (lines_of left) k c.count) ∙ c.told

lines_next : (bytes read left piece rest : List ℕ) (k : ℕ) → Cut bytes k read left → IsNext left piece rest → first_lines (k + 1) bytes ≡ read ++ piece
lines_next bytes read left piece rest k c (is, ls) =
    ap (λ l. joined (take (k + 1) l)) (c.are ∙ ap (λ l. c.lines ++ l) ls ∙ sym (append_assoc c.lines (piece ∷ []) (lines_of rest)))
    ∙ ap joined (take_all (c.lines ++ piece ∷ []) (lines_of rest) (k + 1) (omega (arith, c.count, length-append c.lines (piece ∷ []))))
    ∙ joined-append c.lines (piece ∷ []) ∙ ap (λ l. joined c.lines ++ l) (append-nil piece) ∙ ap (λ l. l ++ piece) c.told

-- the answer where the next line does not pass
pub no_here : (session : Session) (bytes read left piece rest : List ℕ) (s : State) (ls : List (List ℕ)) (k : ℕ) → Cut bytes k read left → IsNext left piece rest → Reaches session read s ls
    → (Passes session (read ++ piece) → ⊥) → IsNo session bytes k
no_here session bytes read left piece rest s ls k c n r not = record {
  none = λ log y. not (passes_by session bytes (read ++ piece) rest (c.whole ∙ ap (λ l. read ++ l) n.0 ∙ sym (append_assoc read piece rest)) (log, y.0, ([], y.1 ∙ sym (append-nil bytes))));
  within = omega (arith, ap length c.are, length-append c.lines (lines_of left), c.count);
  least = λ j h. passes_fewer session bytes (j + 1) k (omega arith) (subst (Passes session) (sym (lines_here bytes read left k c)) (read_passes session read s ls r));
  breaks = λ h p. not (subst (Passes session) (lines_next bytes read left piece rest k c n) p);
}

-- the answer where the last line is a rest that passes
pub no_rest_here : (session : Session) (bytes read piece : List ℕ) (s : State) (ls : List (List ℕ)) (k : ℕ) → Cut bytes k read piece → IsNext piece piece [] → Plain piece → 0 < length piece → Reaches session read s ls
    → Passes session (read ++ piece) → IsNo session bytes (k + 1)
no_rest_here session bytes read piece s ls k c n plain some r passes =
    let many : length (lines_of bytes) ≡ k + 1 = omega (arith, ap length c.are, length-append c.lines (lines_of piece), c.count, ap length n.1) in
    record {
      none = λ log y. no_rest session read s ls piece log r plain some y.0 (y.1 ∙ c.whole);
      within = omega (arith, many);
      least = λ j h. passes_fewer session bytes (j + 1) (k + 1) (omega arith) (subst (Passes session) (sym (lines_next bytes read piece piece [] k c n)) passes);
      breaks = λ h. absurd (omega (arith, h, many));
    }

-- the answer where all lines pass and the report has not ended
pub no_end : (session : Session) (bytes read : List ℕ) (s : State) (ls : List (List ℕ)) (k : ℕ) → Cut bytes k read [] → Reaches session read s ls → ((s.ended ≡ true) × (ls ≡ []) → ⊥) → IsNo session bytes k
no_end session bytes read s ls k c r not =
    let many : length (lines_of bytes) ≡ k = omega (arith, ap length c.are, length-append c.lines [], c.count) in
    let same : bytes ≡ read = c.whole ∙ append-nil read in
    record {
      none = λ log y. let w = is_whole session read s ls log r y.0 (y.1 ∙ same) in not (w.0, w.1);
      within = omega (arith, many);
      least = λ j h. passes_fewer session bytes (j + 1) k (omega arith) (subst (Passes session) (sym (lines_here bytes read [] k c)) (read_passes session read s ls r));
      breaks = λ h. absurd (omega (arith, h, many));
    }
