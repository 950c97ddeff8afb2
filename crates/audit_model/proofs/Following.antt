-- What a state's lines are, and which legal logs go on from it.
use Rattle.std.proofs.Common.{◌≡◌, ◌≢◌, ◌⊎◌, inl, inr, ◌+◌, ◌<◌, ◌≤◌, ℕ, Bool, true, false, Option, Some, None, List, [], ◌∷◌, ◌++◌, codes, length, get_or, map, refl, sym, ap, subst, ◌∙◌, append_assoc, arith}
use Rattle.std.proofs.lemmas.Bool.{cases_lt, cases_eq}
use Rattle.std.specs.Fmt.{decimal}
use Rattle.std.proofs.lemmas.Option.{get_or_from_slice_get}
use Rattle.version_journal.specs.declared.entry.Entry.{Entry}
use Rattle.version_journal.specs.declared.entry.Reply.{Reply}
use Rattle.version_journal.specs.declared.entry.Reply.TheVariants.{Painted, Accepted, Refused}
use Rattle.version_journal.specs.declared.run_log.Repeat.{Repeat}
use Rattle.session_file.specs.declared.session.Session.{Session}
use Rattle.shift_model.specs.Logs.{named_act}
use Rattle.std.proofs.lemmas.List.{get_or_past}
use Rattle.std.specs.List.{concat}
use Rattle.std.specs.Prelude.{◌/◌, ◌%◌, if◌then◌else◌}
use Rattle.hex.specs.Hex.{encode_lower, encode_with, lower_digits}
use Rattle.mill_base.specs.declared.face.Face.{Face}
use Rattle.mill_base.specs.declared.face.Face.TheVariants.{Up, Down}
use Rattle.draft_model.specs.Cloths.{ClothCells}
use Rattle.draft_model.specs.Texts.{end_word, float_text, kind_word}
use Rattle.draft_model.specs.declared.design.Design.{Design}
use Rattle.draft_model.specs.declared.float_run.FloatRun.{FloatRun}
use Rattle.draft_model.specs.declared.float_run.FloatKind.{FloatKind}
use Rattle.draft_model.specs.declared.float_run.FloatKind.TheVariants.{Weft, Warp}
use Rattle.loom_threads.specs.Woven.{digest_of, lifted, repeat_of}
use Rattle.report_text.specs.Reports.{act_line, design_text, end_mark, face_word, loom_text, numbered, reply_text, row_line, row_text}
use Rattle.audit_model.specs.Lines.{design_line, lines_of_rows, shift_head, shown_lines}
use Rattle.audit_model.specs.Reads.{AreLines}
use Rattle.audit_model.specs.Pieces.{IsLine, Plain}
use Rattle.audit_model.specs.States.{ActsDone, CanDo, CanWeave, Can, Move, State, done_of, entries_of, face_of, history_of, line, repeats_of, reply_to, versions_of, IsSmall}
use Rattle.audit_model.specs.States.Move.{Do, Weave, Begin, End}
use Rattle.audit_model.proofs.Pieces.{decimal_plain, more_plain, number_in, plain_by, plain_join}

-- each line of a move is a line

numbered_plain : (word : List ℕ) (n : ℕ) → Plain word → Plain (word ++ decimal n)
numbered_plain word n h = plain_join word (decimal n) h (decimal_plain n)

numbered_more : (front word : List ℕ) (n : ℕ) → Plain front → Plain word → Plain (front ++ (word ++ decimal n))
numbered_more front word n h w = plain_join front (word ++ decimal n) h (numbered_plain word n w)

-- the text of a float, and of a reply
kind_plain : (k : FloatKind) → Plain (kind_word k)
kind_plain Weft = plain_by (kind_word Weft) refl
kind_plain Warp = plain_by (kind_word Warp) refl

endless_plain : (b : Bool) → Plain (end_word b)
endless_plain true = plain_by (end_word true) refl
endless_plain false = plain_by (end_word false) refl

none_plain : Plain []
none_plain k d h = absurd (omega arith)

float_plain : (run : FloatRun) → Plain (float_text run)
float_plain run =
    plain_join (kind_word run.kind) (concat (decimal run.line ∷ codes " start " ∷ decimal run.start ∷ codes " length " ∷ decimal run.length ∷ end_word run.endless ∷ [])) (kind_plain run.kind)
    (plain_join (decimal run.line) (concat (codes " start " ∷ decimal run.start ∷ codes " length " ∷ decimal run.length ∷ end_word run.endless ∷ [])) (decimal_plain run.line)
    (plain_join (codes " start ") (concat (decimal run.start ∷ codes " length " ∷ decimal run.length ∷ end_word run.endless ∷ [])) (plain_by (codes " start ") refl)
    (plain_join (decimal run.start) (concat (codes " length " ∷ decimal run.length ∷ end_word run.endless ∷ [])) (decimal_plain run.start)
    (plain_join (codes " length ") (concat (decimal run.length ∷ end_word run.endless ∷ [])) (plain_by (codes " length ") refl)
    (plain_join (decimal run.length) (concat (end_word run.endless ∷ [])) (decimal_plain run.length)
    (plain_join (end_word run.endless) [] (endless_plain run.endless) none_plain))))))

reply_plain : (r : Reply) → Plain (reply_text r)
reply_plain Painted = plain_by (codes "paint") refl
reply_plain (Accepted v) = numbered_plain (codes "accepted ") v (plain_by (codes "accepted ") refl)
reply_plain (Refused run) = plain_join (codes "refused ") (float_text run) (plain_by (codes "refused ") refl) (float_plain run)

-- a digest
digit_plain : (n : ℕ) → get_or lower_digits n 0 ≢ 10
digit_plain n e = by (cases_lt n 16) where
  all : Plain lower_digits
  all = plain_by lower_digits refl

  by : (n < 16) ⊎ (16 ≤ n) → ⊥
  by (inl low) = all n 0 low e
  by (inr high) = let past : get_or lower_digits n 0 ≡ 0 = get_or_past lower_digits n 0 high in absurd (omega (arith, e, past))

hex_plain : (bytes : List ℕ) → Plain (encode_lower bytes)
unfolding encode_with
hex_plain [] = none_plain
hex_plain (b ∷ bytes) = more_plain (get_or lower_digits (b / 16) 0) (get_or lower_digits (b % 16) 0 ∷ encode_lower bytes) (digit_plain (b / 16))
    (more_plain (get_or lower_digits (b % 16) 0) (encode_lower bytes) (digit_plain (b % 16)) (hex_plain bytes))

marks_plain : (row : List Bool) → Plain (map end_mark row)
marks_plain [] = none_plain
marks_plain (c ∷ row) = more_plain (end_mark c) (map end_mark row) (mark c) (marks_plain row) where
  mark : (c : Bool) → end_mark c ≢ 10
  mark true = λ e. absurd (omega (arith, e))
  mark false = λ e. absurd (omega (arith, e))

pub row_is_line : (pick : ℕ) (row : List Bool) → IsLine (row_line pick row)
row_is_line pick row = (
  numbered (codes "row ") pick ++ codes " " ++ row_text row,
  refl,
  plain_join (numbered (codes "row ") pick ++ codes " ") (row_text row)
      (plain_join (numbered (codes "row ") pick) (codes " ") (numbered_plain (codes "row ") pick (plain_by (codes "row ") refl)) (plain_by (codes " ") refl)) (marks_plain row),
)

rows_are_lines : (pick : ℕ) (rows : List (List Bool)) → AreLines (lines_of_rows pick rows)
rows_are_lines pick [] = tt
rows_are_lines pick (row ∷ rows) = (row_is_line pick row, rows_are_lines (pick + 1) rows)

pub shown_are_lines : (rows : Option ClothCells) → AreLines (shown_lines rows)
shown_are_lines None = tt
shown_are_lines (Some cloth) = rows_are_lines 0 cloth.rows

pub head_is_line : (n : ℕ) → IsLine (shift_head n)
head_is_line n = (codes "shift " ++ decimal n, refl, numbered_plain (codes "shift ") n (plain_by (codes "shift ") refl))

pub design_is_line : (session : Session) → IsLine (design_line session)
design_is_line session = (
  codes "design " ++ design_text session.design,
  refl,
  plain_join (codes "design ") (design_text session.design) (plain_by (codes "design ") refl)
      (numbered_more (numbered (codes "columns ") d.size.columns ++ numbered (codes " picks ") d.size.picks ++ numbered (codes " ends ") (length d.tie.ends)) (codes " hooks ") d.casting.hooks
      (numbered_more (numbered (codes "columns ") d.size.columns ++ numbered (codes " picks ") d.size.picks) (codes " ends ") (length d.tie.ends)
      (numbered_more (numbered (codes "columns ") d.size.columns) (codes " picks ") d.size.picks (numbered_plain (codes "columns ") d.size.columns (plain_by (codes "columns ") refl)) (plain_by (codes " picks ") refl))
      (plain_by (codes " ends ") refl)) (plain_by (codes " hooks ") refl)),
) where
  d : Design
  d = session.design

face_plain : (face : Face) → Plain (face_word face)
face_plain Up = plain_by (face_word Up) refl
face_plain Down = plain_by (face_word Down) refl

loom_plain : (face : Face) (loom number : ℕ) → Plain (loom_text face loom number)
loom_plain face loom number = numbered_more (numbered (codes "loom ") loom) (face_word face) number (numbered_plain (codes "loom ") loom (plain_by (codes "loom ") refl)) (face_plain face)

pub line_is : (session : Session) (s : State) (m : Move) → IsLine (line session s m)
line_is session s (Do e) =
    let a = numbered (codes "act ") (length (entries_of s)) in
    let b = a ++ numbered (codes " painter ") e.painter in
    let d = b ++ numbered (codes " number ") e.number in (
      d ++ codes " " ++ reply_text e.reply,
      refl,
      plain_join (d ++ codes " ") (reply_text e.reply)
          (plain_join d (codes " ")
          (numbered_more b (codes " number ") e.number (numbered_more a (codes " painter ") e.painter (numbered_plain (codes "act ") (length (entries_of s)) (plain_by (codes "act ") refl)) (plain_by (codes " painter ") refl))
          (plain_by (codes " number ") refl)) (plain_by (codes " ") refl)) (reply_plain e.reply),
    )
line_is session s (Weave loom r) =
    let front = loom_text (face_of session loom) loom (length (repeats_of s loom)) ++ numbered (codes " version ") r.version in
    let back = codes " sha256 " ++ encode_lower r.digest in (
      front ++ back,
      sym (append_assoc front back (10 ∷ [])),
      plain_join front back (numbered_more (loom_text (face_of session loom) loom (length (repeats_of s loom))) (codes " version ") r.version (loom_plain (face_of session loom) loom (length (repeats_of s loom))) (plain_by (codes " version ") refl))
          (plain_join (codes " sha256 ") (encode_lower r.digest) (plain_by (codes " sha256 ") refl) (hex_plain r.digest)),
    )
line_is session s Begin = head_is_line (s.shift + 1)
line_is session s End = (codes "end versions " ++ decimal _, refl, numbered_plain (codes "end versions ") _ (plain_by (codes "end versions ") refl))

-- two moves that a state allows have different lines

abbrev pub the_entry : ℕ → ℕ → ℕ → Reply → Entry
the_entry shift painter number reply = record { shift = shift; painter = painter; number = number; reply = reply }

abbrev pub act_of : Session → State → ℕ → Entry
act_of session s painter =
    the_entry s.shift painter (done_of s painter + 1) (reply_to session.design (history_of session s) (named_act session (the_entry s.shift painter (done_of s painter + 1) Painted)))

pub act_is : (session : Session) (s : State) (e : Entry) → CanDo session s e → e ≡ act_of session s e.painter
act_is session s e c =
    ap (λ n. the_entry n e.painter e.number e.reply) c.shift ∙ ap (λ n. the_entry s.shift e.painter n e.reply) c.number
    ∙ ap (λ r. the_entry s.shift e.painter (done_of s e.painter + 1) r)
    (c.reply ∙ ap (λ n. reply_to session.design (history_of session s) (named_act session (the_entry n e.painter e.number Painted))) c.shift
    ∙ ap (λ n. reply_to session.design (history_of session s) (named_act session (the_entry s.shift e.painter n Painted))) c.number)

abbrev the_repeat : ℕ → ℕ → List ℕ → Option ClothCells → Repeat
the_repeat shift version digest rows = record { shift = shift; version = version; digest = digest; rows = rows }

abbrev cloth_at : Session → State → ℕ → ℕ → ClothCells
cloth_at session s loom version = lifted session.design (face_of session loom) (get_or (versions_of session s) version session.opening)

repeat_is : (session : Session) (s : State) (loom : ℕ) (r : Repeat) → CanWeave session s loom r → r ≡ repeat_of s.shift r.version session.show_rows (cloth_at session s loom r.version)
repeat_is session s loom r c =
    let paper = sym (get_or_from_slice_get (versions_of session s) r.version c.is.paper session.opening c.is.version) in
    ap (λ n. the_repeat n r.version r.digest r.rows) c.shift
    ∙ ap (λ l. the_repeat s.shift r.version l r.rows) (c.is.digest ∙ ap (λ q. digest_of (lifted session.design (face_of session loom) q)) paper)
    ∙ ap (λ l. the_repeat s.shift r.version (digest_of (cloth_at session s loom r.version)) l)
    (c.is.rows ∙ ap (λ q. if session.show_rows then Some (lifted session.design (face_of session loom) q) else None) paper)

acts_and_more : (session : Session) (s : State) (e : Entry) → CanDo session s e → ActsDone session s → ⊥
acts_and_more session s e c a = absurd (omega (arith, c.left, a.each e.painter c.painter))

weave_same : (session : Session) (s : State) (k l : ℕ) (q r : Repeat) → IsSmall session s → CanWeave session s k q → CanWeave session s l r → line session s (Weave k q) ≡ line session s (Weave l r) → Weave k q ≡ Weave l r
weave_same session s k l q r small c d e = by (cases_eq k l) where
  by : (k ≡ l) ⊎ (k ≢ l) → Weave k q ≡ Weave l r
  by (inl same) =
      let front = loom_text (face_of session l) l (length (repeats_of s l)) in
      let version : q.version ≡ r.version = number_in front (codes " version ") (codes "sha256 " ++ encode_lower q.digest ++ codes "\n") (codes "sha256 " ++ encode_lower r.digest ++ codes "\n") q.version r.version
      (omega (arith, c.no_newer, small.versions)) (omega (arith, d.no_newer, small.versions)) (subst (λ n. line session s (Weave n q) ≡ line session s (Weave l r)) same e) in
      ap (λ n. Weave n q) same
      ∙ ap (Weave l) (repeat_is session s l q (subst (λ n. CanWeave session s n q) same c) ∙ ap (λ n. repeat_of s.shift n session.show_rows (cloth_at session s l n)) version ∙ sym (repeat_is session s l r d))
  by (inr other) = order (cases_lt k l) where
    order : (k < l) ⊎ (l ≤ k) → Weave k q ≡ Weave l r
    order (inl less) = absurd (omega (arith, d.below.each k less, c.left))
    order (inr more) = absurd (omega (arith, c.below.each l (let h : l < k = omega (arith, more, other) in h), d.left))

-- the line of an act up to its painter, and what is behind
abbrev behind_painter : Entry → List ℕ
behind_painter e = (codes "number " ++ decimal e.number) ++ (codes " " ++ (reply_text e.reply ++ codes "\n"))

painter_first : (act : ℕ) (e : Entry) → act_line act e ≡ (numbered (codes "act ") act ++ numbered (codes " painter ") e.painter) ++ 32 ∷ behind_painter e
painter_first act e =
    let p = numbered (codes "act ") act ++ numbered (codes " painter ") e.painter in
    let n = numbered (codes " number ") e.number in
    let r = reply_text e.reply in
    append_assoc (p ++ n ++ codes " ") r (codes "\n") ∙ append_assoc (p ++ n) (codes " ") (r ++ codes "\n") ∙ append_assoc p n (codes " " ++ (r ++ codes "\n"))

pub distinct : (session : Session) (s : State) (m n : Move) → IsSmall session s → Can session s m → Can session s n → line session s m ≡ line session s n → m ≡ n
distinct session s (Do e) (Do f) small c d is =
    let front = numbered (codes "act ") (length (entries_of s)) in
    let painter : e.painter ≡ f.painter = number_in front (codes " painter ") (behind_painter e) (behind_painter f) e.painter f.painter
    (omega (arith, c.painter, small.painters)) (omega (arith, d.painter, small.painters)) (sym (painter_first (length (entries_of s)) e) ∙ is ∙ painter_first (length (entries_of s)) f) in
    ap Do (act_is session s e c ∙ ap (act_of session s) painter ∙ sym (act_is session s f d))
distinct session s (Do e) (Weave l r) small c d is = absurd (acts_and_more session s e c d.acts)
distinct session s (Do e) Begin small c d is = absurd (acts_and_more session s e c d.done.acts)
distinct session s (Do e) End small c d is = absurd (acts_and_more session s e c d.done.acts)
distinct session s (Weave k q) (Do e) small c d is = absurd (acts_and_more session s e d c.acts)
distinct session s (Weave k q) (Weave l r) small c d is = weave_same session s k l q r small c d is
distinct session s (Weave k q) Begin small c d is = absurd (omega (arith, c.left, d.done.repeats.each k c.there))
distinct session s (Weave k q) End small c d is = absurd (omega (arith, c.left, d.done.repeats.each k c.there))
distinct session s Begin (Do e) small c d is = absurd (acts_and_more session s e d c.done.acts)
distinct session s Begin (Weave l r) small c d is = absurd (omega (arith, d.left, c.done.repeats.each l d.there))
distinct session s Begin Begin small c d is = refl
distinct session s Begin End small c d is = absurd (omega (arith, c.more, d.last))
distinct session s End (Do e) small c d is = absurd (acts_and_more session s e d c.done.acts)
distinct session s End (Weave l r) small c d is = absurd (omega (arith, d.left, c.done.repeats.each l d.there))
distinct session s End Begin small c d is = absurd (omega (arith, c.last, d.more))
distinct session s End End small c d is = refl
