-- Lines that are read one after another.
use Rattle.std.proofs.Common.{◌≡◌, ◌≢◌, ◌⊎◌, inl, inr, ◌+◌, ◌-◌, ◌<◌, ◌≤◌, ℕ, zero, suc, Bool, true, false, cond, List, [], ◌∷◌, ◌++◌, length, length-append, get_or, refl, sym, ap, subst, ◌∙◌, append_assoc, append-nil, arith}
use Rattle.std.proofs.lemmas.Bool.{cases_lt}
use Rattle.version_journal.specs.declared.run_log.Repeat.{Repeat}
use Rattle.version_journal.specs.declared.run_log.RunLog.{RunLog}
use Rattle.session_file.specs.declared.session.Session.{Session}
use Rattle.shift_model.specs.Logs.{Legal}
use Rattle.shift_model.proofs.lemmas.Lists.{All_tail}
use Rattle.audit_model.specs.Pieces.{IsLine, IsPiece, Plain}
use Rattle.report_text.specs.Reports.{report}
use Rattle.audit_model.specs.Audits.{Begins, Passes, joined}
use Rattle.audit_model.specs.States.{Can, Extends, IsSmall, Move, Part, State, entries_of, go, line, log_of, more_lines, repeats_of, text}
use Rattle.audit_model.specs.States.Move.{Do, Weave, Begin, End}
use Rattle.audit_model.specs.Reads.{AreLines, MayCome, Reaches}
use Rattle.audit_model.proofs.Growing.{begun_repeats, text_grows, woven_here, woven_there}
use Rattle.audit_model.proofs.Keeping.{part_kept}
use Rattle.audit_model.proofs.Finishing.{ended_legal, ended_text, finish}
use Rattle.audit_model.proofs.Nexts.{ended_same, next}
use Rattle.audit_model.proofs.Pieces.{cancel, line_same, piece_begins}
use Rattle.audit_model.proofs.Following.{distinct, line_is, shown_are_lines}

-- how much of a log is still to come

abbrev sum_below : ℕ → (ℕ → ℕ) → ℕ
sum_below zero f = 0
sum_below (suc n) f = sum_below n f + f n

sum_alike : (n : ℕ) (f g : ℕ → ℕ) → ((j : ℕ) → j < n → f j ≡ g j) → sum_below n f ≡ sum_below n g
sum_alike zero f g h = refl
sum_alike (suc n) f g h = omega (arith, sum_alike n f g (λ j l. h j (omega arith)), h n (omega arith))

sum_falls : (n k : ℕ) (f g : ℕ → ℕ) → k < n → f k ≡ g k + 1 → ((j : ℕ) → j < n → j ≢ k → f j ≡ g j) → sum_below n f ≡ sum_below n g + 1
sum_falls zero k f g h one same = absurd (omega arith)
sum_falls (suc n) k f g h one same = by (cases_lt k n) (λ l. sum_falls n k f g l one (λ j a b. same j (omega arith) b)) where
  by : (k < n) ⊎ (n ≤ k) → (k < n → sum_below n f ≡ sum_below n g + 1) → sum_below (suc n) f ≡ sum_below (suc n) g + 1
  by (inl l) again = omega (arith, again l, same n (omega arith) (λ (e : n ≡ k). omega arith))
  by (inr r) again =
      let here : f n ≡ g n + 1 = subst (λ m. f m ≡ g m + 1) (let e : k ≡ n = omega arith in e) one in
      omega (arith, here, sum_alike n f g (λ j l. same j (omega arith) (λ (e : j ≡ k). omega (arith, e, r, l))))

abbrev coming : Session → RunLog → State → ℕ
coming session log s = (length log.entries - length (entries_of s)) + sum_below session.looms (λ i. length (get_or log.looms i []) - length (repeats_of s i))
    + (length session.shifts - s.shift) + cond s.ended 0 1

falls : (session : Session) (log : RunLog) (s : State) (m : Move) → Part session s → Can session s m → Extends session (go session s m) log → coming session log s ≡ coming session log (go session s m) + 1
falls session log s (Do e) p c x =
    let there : length log.entries ≡ length (s.before.entries ++ (s.new ++ e ∷ [])) + length x.entries.0 = ap length x.entries.1 ∙ length-append (s.before.entries ++ (s.new ++ e ∷ [])) x.entries.0 in
    let a : length (s.before.entries ++ (s.new ++ e ∷ [])) ≡ length (entries_of s) + 1 = ap length (sym (append_assoc s.before.entries s.new (e ∷ []))) ∙ length-append (entries_of s) (e ∷ []) in
    omega (arith, there, a)
falls session log s (Weave k r) p c x =
    let s2 = go session s (Weave k r) in
    let here : length (repeats_of s2 k) ≡ length (repeats_of s k) + 1 = ap length (woven_here session s p k r c.there) ∙ length-append (repeats_of s k) (r ∷ []) in
    let there : length (get_or log.looms k []) ≡ length (repeats_of s2 k) + length (x.repeats k c.there).0 = ap length (x.repeats k c.there).1 ∙ length-append (repeats_of s2 k) (x.repeats k c.there).0 in
    let fall = sum_falls session.looms k (λ i. length (get_or log.looms i []) - length (repeats_of s i)) (λ i. length (get_or log.looms i []) - length (repeats_of s2 i)) c.there
    (omega (arith, here, there)) (λ j h other. ap (λ (l : List Repeat). length (get_or log.looms j []) - length l) (sym (woven_there session s k j r other))) in
    omega (arith, fall)
falls session log s Begin p c x =
    let same = sum_alike session.looms (λ i. length (get_or log.looms i []) - length (repeats_of s i)) (λ i. length (get_or log.looms i []) - length (repeats_of (go session s Begin) i))
    (λ i h. ap (λ (l : List Repeat). length (get_or log.looms i []) - length l) (sym (begun_repeats session s i h))) in
    omega (arith, same, ap length (append-nil (entries_of s)), c.more)
falls session log s End p c x = let e : ◌≡◌ {A = ℕ} (cond s.ended 0 1) 1 = ap (λ b. cond b 0 1) c.going in omega (arith, e)

-- a legal log that goes on from a state has a report that begins with its text
follow_for : (session : Session) (log : RunLog) (n : ℕ) (s : State) → Legal session log → Part session s → Extends session s log → coming session log s ≤ n → Begins (text session s) (report session log)
follow_for session log zero s legal p x most = by s.ended refl where
  by : (b : Bool) → s.ended ≡ b → Begins (text session s) (report session log)
  by true t = ([], ap (report session) (ended_same session s log p t legal x) ∙ sym (ended_text session s p t) ∙ sym (append-nil (text session s)))
  by false f = let e : ◌≡◌ {A = ℕ} (cond s.ended 0 1) 1 = ap (λ b. cond b 0 1) f in absurd (omega (arith, e, most))
follow_for session log (suc k) s legal p x most = by s.ended refl (λ m c y h. follow_for session log k (go session s m) legal (part_kept session s m p c) y h) where
  by : (b : Bool) → s.ended ≡ b
      → ((m : Move) → Can session s m → Extends session (go session s m) log → coming session log (go session s m) ≤ k → Begins (text session (go session s m)) (report session log)) → Begins (text session s) (report session log)
  by true t again = ([], ap (report session) (ended_same session s log p t legal x) ∙ sym (ended_text session s p t) ∙ sym (append-nil (text session s)))
  by false f again =
      let found = next session s log p f legal x in
      let m = found.0 in
      let begun = again m found.1 found.2 (omega (arith, falls session log s m p found.1 found.2, most)) in (
        (line session s m ++ joined (more_lines m)) ++ begun.0,
        begun.1 ∙ ap (λ l. l ++ begun.0) (text_grows session s m p found.1) ∙ append_assoc (text session s) (line session s m ++ joined (more_lines m)) begun.0,
      )

pub follow : (session : Session) (log : RunLog) (s : State) → Legal session log → Part session s → Extends session s log → Begins (text session s) (report session log)
follow session log s legal p x = follow_for session log (coming session log s) s legal p x (omega arith)

pub passes_by : (session : Session) (all front rest : List ℕ) → all ≡ front ++ rest → Passes session all → Passes session front
passes_by session all front rest is (log, legal, (more, e)) = (log, legal, (rest ++ more, e ∙ ap (λ l. l ++ more) is ∙ append_assoc front rest more))

pub passes_front : (session : Session) (front rest : List ℕ) → Passes session (front ++ rest) → Passes session front
passes_front session front rest h = passes_by session (front ++ rest) front rest refl h

going_of : (session : Session) (s : State) (m : Move) → Can session s m → s.ended ≡ false
going_of session s (Do e) c = c.going
going_of session s (Weave k r) c = c.going
going_of session s Begin c = c.going
going_of session s End c = c.going

regroup : (bytes l more piece rest : List ℕ) → l ≡ piece ++ rest → bytes ++ (l ++ more) ≡ (bytes ++ piece) ++ (rest ++ more)
regroup bytes l more piece rest is = ap (λ x. bytes ++ (x ++ more)) is ∙ ap (λ x. bytes ++ x) (append_assoc piece rest more) ∙ sym (append_assoc bytes piece (rest ++ more))

-- what was read passes
pub read_passes : (session : Session) (bytes : List ℕ) (s : State) (ls : List (List ℕ)) → Reaches session bytes s ls → Passes session bytes
read_passes session bytes s ls r = passes_by session (text session s) bytes (joined ls) r.told (finish session s r.part)

-- the text with one move more
moved_text : (session : Session) (bytes : List ℕ) (s : State) (m : Move) → Reaches session bytes s [] → Can session s m → text session (go session s m) ≡ bytes ++ (line session s m ++ joined (more_lines m))
moved_text session bytes s m r c = text_grows session s m r.part c ∙ ap (λ l. l ++ (line session s m ++ joined (more_lines m))) (r.told ∙ append-nil bytes)

-- a piece that may come passes
pub may_pass : (session : Session) (bytes : List ℕ) (s : State) (ls : List (List ℕ)) (piece : List ℕ) → Reaches session bytes s ls → MayCome session s ls piece → Passes session (bytes ++ piece)
may_pass session bytes s [] piece r (m, c, (rest, is)) =
    passes_by session (text session (go session s m)) (bytes ++ piece) (rest ++ joined (more_lines m))
    (moved_text session bytes s m r c ∙ regroup bytes (line session s m) (joined (more_lines m)) piece rest is)
    (finish session (go session s m) (part_kept session s m r.part c))
may_pass session bytes s (l ∷ ls) piece r (rest, is) =
    passes_by session (text session s) (bytes ++ piece) (rest ++ joined ls) (r.told ∙ regroup bytes l (joined ls) piece rest is) (finish session s r.part)

-- what a report has behind the bytes that were read
behind_bytes : (bytes a b all more : List ℕ) → all ≡ (bytes ++ a) ++ more → (rest : List ℕ) (l : List ℕ) → all ≡ (bytes ++ l) ++ rest → a ++ more ≡ l ++ rest
behind_bytes bytes a b all more e rest l f = cancel bytes (a ++ more) (l ++ rest) (sym (append_assoc bytes a more) ∙ sym e ∙ f ∙ append_assoc bytes l rest)

front_of : (bytes piece all : List ℕ) → Begins (bytes ++ piece) all → Begins bytes all
front_of bytes piece all (rest, is) = (piece ++ rest, is ∙ append_assoc bytes piece rest)

-- the line that a legal log has behind the bytes
pub data Ahead (session : Session) (bytes : List ℕ) (s : State) (ls : List (List ℕ)) (log : RunLog) : Type 0 where
  Told : (l : List ℕ) (rest : List ℕ) → IsLine l → report session log ≡ bytes ++ (l ++ rest) → ((piece : List ℕ) → Begins piece l → MayCome session s ls piece) → Ahead session bytes s ls log
  Over : s.ended ≡ true → ls ≡ [] → log ≡ log_of session s → report session log ≡ bytes → Ahead session bytes s ls log

pub ahead_of : (session : Session) (bytes : List ℕ) (s : State) (ls : List (List ℕ)) (log : RunLog) → Reaches session bytes s ls → Legal session log → Begins bytes (report session log) → Ahead session bytes s ls log
ahead_of session bytes s (l ∷ ls) log r legal b =
    let f = follow session log s legal r.part (r.only log legal b) in
    Told l (joined ls ++ f.0) r.lines.0
    (f.1 ∙ ap (λ x. x ++ f.0) r.told ∙ append_assoc bytes (l ++ joined ls) f.0 ∙ ap (λ x. bytes ++ x) (append_assoc l (joined ls) f.0)) (λ piece h. h)
ahead_of session bytes s [] log r legal b = by s.ended refl where
  by : (e : Bool) → s.ended ≡ e → Ahead session bytes s [] log
  by true t =
      let same = ended_same session s log r.part t legal (r.only log legal b) in
      Over t refl same (ap (report session) same ∙ sym (ended_text session s r.part t) ∙ r.told ∙ append-nil bytes)
  by false f =
      let found = next session s log r.part f legal (r.only log legal b) in
      let m = found.0 in
      let more = follow session log (go session s m) legal (part_kept session s m r.part found.1) found.2 in
      Told (line session s m) (joined (more_lines m) ++ more.0) (line_is session s m)
      (more.1 ∙ ap (λ x. x ++ more.0) (moved_text session bytes s m r found.1) ∙ append_assoc bytes (line session s m ++ joined (more_lines m)) more.0
      ∙ ap (λ x. bytes ++ x) (append_assoc (line session s m) (joined (more_lines m)) more.0)) (λ piece h. (m, found.1, h))

-- a piece that passes may come
pub pass_may : (session : Session) (bytes : List ℕ) (s : State) (ls : List (List ℕ)) (piece : List ℕ) → Reaches session bytes s ls → IsPiece piece → 0 < length piece → Passes session (bytes ++ piece) → MayCome session s ls piece
pass_may session bytes s ls piece r h some (log, legal, b) = by (ahead_of session bytes s ls log r legal (front_of bytes piece (report session log) b)) where
  by : Ahead session bytes s ls log → MayCome session s ls piece
  by (Told l rest is e may) = may piece (piece_begins piece l b.0 rest h is (cancel bytes (piece ++ b.0) (l ++ rest) (sym (append_assoc bytes piece b.0) ∙ sym b.1 ∙ e)))
  by (Over t none same e) = absurd (omega (arith, some, ap length (sym e ∙ b.1), length-append (bytes ++ piece) b.0, length-append bytes piece))

-- the line that was to come
pub read_line : (session : Session) (bytes : List ℕ) (s : State) (l : List ℕ) (ls : List (List ℕ)) → Reaches session bytes s (l ∷ ls) → Reaches session (bytes ++ l) s ls
read_line session bytes s l ls r = record {
  part = r.part;
  told = r.told ∙ sym (append_assoc bytes l (joined ls));
  lines = r.lines.1;
  only = λ log legal b. r.only log legal (front_of bytes l (report session log) b);
}

-- the first line of a move
pub read_move : (session : Session) (bytes : List ℕ) (s : State) (m : Move) → Reaches session bytes s [] → IsSmall session s → Can session s m → Reaches session (bytes ++ line session s m) (go session s m) (more_lines m)
read_move session bytes s m r small c = record {
  part = part_kept session s m r.part c;
  told = moved_text session bytes s m r c ∙ sym (append_assoc bytes (line session s m) (joined (more_lines m)));
  lines = more m;
  only = λ log legal b. goes_on log legal b;
} where
  more : (m : Move) → AreLines (more_lines m)
  more (Do e) = tt
  more (Weave k w) = shown_are_lines w.rows
  more Begin = tt
  more End = tt

  goes_on : (log : RunLog) → Legal session log → Begins (bytes ++ line session s m) (report session log) → Extends session (go session s m) log
  goes_on log legal b =
      let found = next session s log r.part (going_of session s m c) legal (r.only log legal (front_of bytes (line session s m) (report session log) b)) in
      let n = found.0 in
      let f = follow session log (go session s n) legal (part_kept session s n r.part found.1) found.2 in
      let e : line session s m ++ b.0 ≡ line session s n ++ (joined (more_lines n) ++ f.0) =
      cancel bytes (line session s m ++ b.0) (line session s n ++ (joined (more_lines n) ++ f.0)) (sym (append_assoc bytes (line session s m) b.0) ∙ sym b.1 ∙ f.1 ∙ ap (λ x. x ++ f.0) (moved_text session bytes s n r found.1)
      ∙ append_assoc bytes (line session s n ++ joined (more_lines n)) f.0 ∙ ap (λ x. bytes ++ x) (append_assoc (line session s n) (joined (more_lines n)) f.0)) in
      let same : m ≡ n = distinct session s m n small c found.1 (line_same (line session s m) (line session s n) b.0 (joined (more_lines n) ++ f.0) (line_is session s m) (line_is session s n) e) in
      subst (λ (k : Move). Extends session (go session s k) log) (sym same) found.2

-- where the report has ended, the bytes are that of the state's log, and of no other
pub read_whole : (session : Session) (bytes : List ℕ) (s : State) → Reaches session bytes s [] → s.ended ≡ true → Legal session (log_of session s) × (report session (log_of session s) ≡ bytes)
read_whole session bytes s r t = (ended_legal session s r.part t, sym (ended_text session s r.part t) ∙ r.told ∙ append-nil bytes)

line_some : (l : List ℕ) → IsLine l → 0 < length l
line_some l (f, is, p) = omega (arith, ap length is, length-append f (10 ∷ []))

-- where a legal log has the bytes as its report, the report has ended, and the log is the state's
pub is_whole : (session : Session) (bytes : List ℕ) (s : State) (ls : List (List ℕ)) (log : RunLog) → Reaches session bytes s ls → Legal session log → report session log ≡ bytes
    → (s.ended ≡ true) × (ls ≡ []) × (log ≡ log_of session s)
is_whole session bytes s ls log r legal e = by (ahead_of session bytes s ls log r legal ([], e ∙ sym (append-nil bytes))) where
  by : Ahead session bytes s ls log → (s.ended ≡ true) × (ls ≡ []) × (log ≡ log_of session s)
  by (Told l rest is f may) = absurd (omega (arith, ap length (sym e ∙ f), length-append bytes (l ++ rest), length-append l rest, line_some l is))
  by (Over t none same f) = (t, none, same)

seam_feed : (f : List ℕ) (rest : List ℕ) → Plain (f ++ 10 ∷ rest) → ⊥
seam_feed [] rest p = p 0 0 (omega arith) refl
seam_feed (x ∷ f) rest p = seam_feed f rest (All_tail (λ b. b ≢ 10) x (f ++ 10 ∷ rest) p)

-- a rest without a line feed ends no report
pub no_rest : (session : Session) (bytes : List ℕ) (s : State) (ls : List (List ℕ)) (piece : List ℕ) (log : RunLog) → Reaches session bytes s ls → Plain piece → 0 < length piece → Legal session log
    → report session log ≡ bytes ++ piece → ⊥
no_rest session bytes s ls piece log r plain some legal e = by (ahead_of session bytes s ls log r legal (piece, e)) where
  by : Ahead session bytes s ls log → ⊥
  by (Told l rest (f, is, q) told may) =
      seam_feed f rest (subst Plain (cancel bytes piece (l ++ rest) (sym e ∙ told) ∙ ap (λ x. x ++ rest) is ∙ append_assoc f (10 ∷ []) rest) plain)
  by (Over t none same over) = absurd (omega (arith, some, ap length (sym over ∙ e), length-append bytes piece))

-- a line that may come is the line of a move, or the line that was to come
pub line_comes : (l piece : List ℕ) → IsLine l → IsLine piece → Begins piece l → piece ≡ l
line_comes l piece a b (rest, is) = line_same piece l rest [] b a (sym is ∙ sym (append-nil l))
