-- What a file stands for when a block was put behind the others.
use Rattle.std.proofs.Common.{◌≡◌, ◌⊎◌, inl, inr, ℕ, ◌+◌, ◌*◌, ◌<◌, ◌≤◌, List, [], ◌∷◌, ◌++◌, length, take, drop, get_or, refl, sym, ◌∙◌, ap, subst, arith, append_assoc, length-append}
use Rattle.std.proofs.lemmas.List.{take_at, take_all, append-nil, drop_more, drop_all}
use Rattle.block_journal.specs.declared.mark.Mark.{Mark}
use Rattle.journal_disk.specs.Disks.{Log, AtRest, MayLeave, Untouched, reach, seen, state}
use Rattle.journal_disk.proofs.lemmas.Logs.{kept_front, rest_synced}
use Rattle.journal_disk.specs.Gates.{ShutAt, StillShut, Opened, ShutOrOpened}
use Rattle.block_journal.specs.Journals.{Rule, body_of, mark_bytes, marks_bytes, number, blocks_bytes, joined, header, front, IsGood, AllGood, StandsTo, Stands}

pub length-number : (n : ℕ) → length (number n) ≡ 4
unfolding number
length-number n = refl

pub three : (xs a b c : List ℕ) → xs ++ a ++ b ++ c ≡ xs ++ (a ++ b ++ c)
three xs a b c = append_assoc (xs ++ a) b c ∙ append_assoc xs a (b ++ c) ∙ ap (λ (l : List ℕ). xs ++ l) (sym (append_assoc a b c))

pub length-mark : (m : Mark) → length (mark_bytes m) ≡ 12
length-mark m = omega (arith, length-append (number m.shift ++ number m.painter) (number m.number), length-append (number m.shift) (number m.painter), length-number m.shift, length-number m.painter, length-number m.number)

pub length-marks : (marks : List Mark) → length (marks_bytes marks) ≡ 12 * length marks
length-marks [] = refl
length-marks (m ∷ marks) = omega (arith, length-marks marks, length-append (mark_bytes m) (marks_bytes marks), length-mark m)

pub length-body : (block : List Mark) → length (body_of block) ≡ 4 + 12 * length block
unfolding body_of
length-body block = omega (arith, length-number (length block), length-append (number (length block)) (marks_bytes block), length-marks block)

-- one mark more is written
pub encoded_more : (out next : List ℕ) (block : List Mark) (i : ℕ) (d : Mark) (all : List ℕ) → i < length block → next ≡ out ++ mark_bytes (get_or block i d) → out ++ marks_bytes (drop i block) ≡ all → next ++ marks_bytes (drop (i + 1) block) ≡ all
encoded_more out next block i d all lt is so_far =
    ap (λ (l : List ℕ). l ++ marks_bytes (drop (i + 1) block)) is ∙ append_assoc out (mark_bytes (get_or block i d)) (marks_bytes (drop (i + 1) block))
    ∙ ap (λ (ms : List Mark). out ++ marks_bytes ms) (sym (drop_more block i d lt)) ∙ so_far

pub encoded_all : (out next : List ℕ) (block : List Mark) (i : ℕ) → length block ≤ i → next ≡ out ++ 0 ∷ [] → out ++ marks_bytes (drop i block) ≡ number (length block) ++ marks_bytes block → next ≡ body_of block ++ 0 ∷ []
unfolding body_of
encoded_all out next block i le is so_far =
    is ∙ ap (λ (l : List ℕ). l ++ 0 ∷ []) (sym (append-nil out) ∙ ap (λ (ms : List Mark). out ++ marks_bytes ms) (sym (drop_all i block le)) ∙ so_far)

blocks-push : (blocks : List (List Mark)) (block : List Mark) → blocks_bytes (blocks ++ block ∷ []) ≡ blocks_bytes blocks ++ 1 ∷ body_of block
blocks-push [] block = append-nil (1 ∷ body_of block)
blocks-push (b ∷ blocks) block = ap (λ (l : List ℕ). (1 ∷ body_of b) ++ l) (blocks-push blocks block) ∙ sym (append_assoc (1 ∷ body_of b) (blocks_bytes blocks) (1 ∷ body_of block))

pub front-push : (digest : List ℕ) (blocks : List (List Mark)) (block : List Mark) → front digest (blocks ++ block ∷ []) ≡ front digest blocks ++ 1 ∷ body_of block
front-push digest blocks block = ap (λ (l : List ℕ). header digest ++ l) (blocks-push blocks block) ∙ sym (append_assoc (header digest) (blocks_bytes blocks) (1 ∷ body_of block))

pub joined-push : (blocks : List (List Mark)) (block : List Mark) → joined (blocks ++ block ∷ []) ≡ joined blocks ++ block
joined-push [] block = append-nil block
joined-push (b ∷ blocks) block = ap (λ (l : List Mark). b ++ l) (joined-push blocks block) ∙ sym (append_assoc b (joined blocks) block)

good-push : (rule : Rule) (before : List Mark) (blocks : List (List Mark)) (block : List Mark) → AllGood rule before blocks → IsGood rule (before ++ joined blocks) block → AllGood rule before (blocks ++ block ∷ [])
good-push rule before [] block good next = (subst (λ (l : List Mark). IsGood rule l block) (append-nil before) next, tt)
good-push rule before (b ∷ blocks) block good next =
    (good.0, good-push rule (before ++ b) blocks block good.1 (subst (λ (l : List Mark). IsGood rule l block) (sym (append_assoc before b (joined blocks))) next))

pub good-next : (rule : Rule) (blocks : List (List Mark)) (block : List Mark) → AllGood rule [] blocks → IsGood rule (joined blocks) block → AllGood rule [] (blocks ++ block ∷ [])
good-next rule blocks block good next = good-push rule [] blocks block good next

module _ (rule : Rule) (digest before : List ℕ) (marks : List Mark) (place : ℕ) (stands : StandsTo rule digest before marks place) where
  is_front : take place before ≡ front digest stands.blocks
  is_front = ap (λ (l : List ℕ). take place l) stands.parts ∙ take_at (front digest stands.blocks) (stands.gate ∷ stands.rest) place (sym stands.place_is)

  -- a byte other than 1 stands behind the blocks
  pub shut_behind : ShutAt before place
  shut_behind = record {
    within = omega (arith, ap length stands.parts, length-append (front digest stands.blocks) (stands.gate ∷ stands.rest), stands.place_is);
    shut = λ one. stands.shut (sym gate ∙ one);
  }
    where
      behind : (xs : List ℕ) (y : ℕ) (ys : List ℕ) → get_or (xs ++ y ∷ ys) (length xs) 0 ≡ y
      behind [] y ys = refl
      behind (x ∷ xs) y ys = behind xs y ys

      gate : get_or before place 0 ≡ stands.gate
      gate = ap (λ (l : List ℕ). get_or l place 0) stands.parts ∙ ap (λ (n : ℕ). get_or (front digest stands.blocks ++ stands.gate ∷ stands.rest) n 0) stands.place_is ∙ behind (front digest stands.blocks) stands.gate stands.rest

  pub still_stands : (c : List ℕ) → StillShut before place c → Stands rule digest c marks
  still_stands c shut = (
    place,
    record {
      blocks = stands.blocks;
      gate = shut.gate;
      rest = shut.rest;
      parts = shut.parts ∙ ap (λ (l : List ℕ). l ++ shut.gate ∷ shut.rest) is_front;
      shut = shut.shut;
      good = stands.good;
      marks_are = stands.marks_are;
      place_is = stands.place_is;
    },
  )

  pub stands_more : (block : List Mark) (body c : List ℕ) → body ≡ body_of block ++ 0 ∷ [] → IsGood rule marks block → Opened before place body c → StandsTo rule digest c (marks ++ block) (place + (5 + 12 * length block))
  stands_more block body c is good opened = record {
    blocks = stands.blocks ++ block ∷ [];
    gate = 0;
    rest = opened.rest;
    parts =
        opened.parts ∙ ap (λ (l : List ℕ). l ++ 1 ∷ (body ++ opened.rest)) is_front ∙ ap (λ (l : List ℕ). front digest stands.blocks ++ 1 ∷ (l ++ opened.rest)) is
        ∙ ap (λ (l : List ℕ). front digest stands.blocks ++ 1 ∷ l) (append_assoc (body_of block) (0 ∷ []) opened.rest)
        ∙ sym (append_assoc (front digest stands.blocks) (1 ∷ body_of block) (0 ∷ opened.rest))
        ∙ ap (λ (l : List ℕ). l ++ 0 ∷ opened.rest) (sym (front-push digest stands.blocks block));
    shut = λ e. absurd cc;
    good = good-next rule stands.blocks block stands.good (subst (λ (l : List Mark). IsGood rule l block) stands.marks_are good);
    marks_are = ap (λ (l : List Mark). l ++ block) stands.marks_are ∙ sym (joined-push stands.blocks block);
    place_is =
        let len = ap length (front-push digest stands.blocks block) in
        omega (arith, len, length-append (front digest stands.blocks) (1 ∷ body_of block), length-body block, stands.place_is);
  }

  -- what a crash leaves while a block is put, and after
  pub with_or_without : (block : List Mark) (body c : List ℕ) → body ≡ body_of block ++ 0 ∷ [] → IsGood rule marks block → ShutOrOpened before place body c → Stands rule digest c marks ⊎ Stands rule digest c (marks ++ block)
  with_or_without block body c is good (inl shut) = inl (still_stands c shut)
  with_or_without block body c is good (inr opened) = inr (place + (5 + 12 * length block), stands_more block body c is good opened)

-- at rest a crash leaves what a read gives
pub at_rest_only : (log : Log) → AtRest log → (c : List ℕ) → MayLeave (state log) c → c ≡ seen log
at_rest_only log rest c left =
    let s = state log in
    let most : length c ≤ length s.synced = subst (λ ws. length c ≤ reach ws (length s.synced)) rest left.no_longer in
    let same = kept_front s (length c) c (omega (arith, left.no_shorter, most)) (λ i lt. subst (λ ws. Untouched ws i) (sym rest) tt) left in
    sym (take_all (length c) c (omega arith)) ∙ same ∙ take_all (length c) s.synced (omega (arith, left.no_shorter)) ∙ rest_synced log rest
