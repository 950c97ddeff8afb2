-- Reading a journal's blocks from bytes.
use Rattle.std.proofs.Common.{◌≡◌, ◌≢◌, ℕ, zero, suc, ◌+◌, ◌-◌, ◌*◌, ◌^◌, ◌<◌, ◌≤◌, Bool, true, List, [], ◌∷◌, ◌++◌, length, take, drop, get_or, refl, sym, ◌∙◌, ap, subst, arith, append_assoc, length-append, take-append-drop}
use Rattle.std.specs.Prelude.{All, false}
use Rattle.std.specs.List.{AllByRecursion}
use Rattle.std.proofs.lemmas.List.Elements.{recursion_from_All}
use Rattle.std.specs.Int.{w32, from_be_bytes}
use Rattle.std.proofs.lemmas.List.{take_at, take_all, drop_at, append-nil, drop_more, length-drop, length-take-le, drop-drop}
use Rattle.std.proofs.lemmas.Nat.{be_bytes_4, from_be_bytes-to_be_bytes_4}
use Rattle.block_journal.specs.declared.mark.Mark.{Mark}
use Rattle.block_journal.specs.declared.journal.TheConstants.{BLOCK_MARKS}
use Rattle.block_journal.specs.Journals.{Rule, Fits, IsGood, AllGood, StandsTo, number, mark_bytes, marks_bytes, body_of, blocks_bytes, front, header, joined}
use Rattle.block_journal.specs.Opens.{HasHeader, IsBlock, NoBlock, BrokenAt, ReadTo}
use Rattle.block_journal.proofs.Blocks.{length-number, length-mark, length-body, front-push, joined-push, good-next}

-- two lists of one length whose ends differ
same_parts : (n : ℕ) (a b c d : List ℕ) → length a ≡ n → length b ≡ n → a ++ c ≡ b ++ d → (a ≡ b) × (c ≡ d)
same_parts n a b c d la lb e = (sym (take_at a c n la) ∙ ap (λ (l : List ℕ). take n l) e ∙ take_at b d n lb, sym (drop_at a c n la) ∙ ap (λ (l : List ℕ). drop n l) e ∙ drop_at b d n lb)

number_once : (a b : ℕ) → a < 2 ^ 32 → b < 2 ^ 32 → number a ≡ number b → a ≡ b
unfolding number
number_once a b la lb e = sym (from_be_bytes-to_be_bytes_4 a la) ∙ ap (λ (l : List ℕ). from_be_bytes w32 l) e ∙ from_be_bytes-to_be_bytes_4 b lb

mark_once : (a b : Mark) → Fits a → Fits b → mark_bytes a ≡ mark_bytes b → a ≡ b
mark_once a b fa fb e =
    let last = same_parts 8 (number a.shift ++ number a.painter) (number b.shift ++ number b.painter) (number a.number) (number b.number) (two a) (two b) e in
    let firsts = same_parts 4 (number a.shift) (number b.shift) (number a.painter) (number b.painter) (length-number a.shift) (length-number b.shift) last.0 in
    let s = number_once a.shift b.shift fa.shift fb.shift firsts.0 in
    let p = number_once a.painter b.painter fa.painter fb.painter firsts.1 in
    let n = number_once a.number b.number fa.number fb.number last.1 in
    λ i. record { shift = s i; painter = p i; number = n i }
  where
    two : (m : Mark) → length (number m.shift ++ number m.painter) ≡ 8
    two m = omega (arith, length-append (number m.shift) (number m.painter), length-number m.shift, length-number m.painter)

marks_once : (a b : List Mark) (x y : List ℕ) → length a ≡ length b → AllByRecursion Fits a → AllByRecursion Fits b → marks_bytes a ++ x ≡ marks_bytes b ++ y → a ≡ b
marks_once [] [] x y len fa fb e = refl
marks_once [] (n ∷ b) x y len fa fb e = absurd (omega (arith, len))
marks_once (m ∷ a) [] x y len fa fb e = absurd (omega (arith, len))
marks_once (m ∷ a) (n ∷ b) x y len fa fb e =
    let whole : mark_bytes m ++ (marks_bytes a ++ x) ≡ mark_bytes n ++ (marks_bytes b ++ y) = sym (append_assoc (mark_bytes m) (marks_bytes a) x) ∙ e ∙ append_assoc (mark_bytes n) (marks_bytes b) y in
    let parts = same_parts 12 (mark_bytes m) (mark_bytes n) (marks_bytes a ++ x) (marks_bytes b ++ y) (length-mark m) (length-mark n) whole in
    let one = mark_once m n fa.0 fb.0 parts.0 in
    let others = marks_once a b x y (omega (arith, len)) fa.1 fb.1 parts.1 in
    λ i. one i ∷ others i

length-block : (bytes : List ℕ) (block : List Mark) (is : IsBlock bytes block) → length bytes ≡ 5 + 12 * length block + length is.rest
length-block bytes block is = omega (arith, ap length is.parts, length-append (body_of block) (is.gate ∷ is.rest), length-body block)

body_parts : (bytes : List ℕ) (block : List Mark) (is : IsBlock bytes block) → bytes ≡ number (length block) ++ (marks_bytes block ++ is.gate ∷ is.rest)
unfolding body_of
body_parts bytes block is = is.parts ∙ append_assoc (number (length block)) (marks_bytes block) (is.gate ∷ is.rest)

small_count : (n : ℕ) → n ≤ BLOCK_MARKS → n < 2 ^ 32
small_count n le = omega (arith, le)

-- bytes begin with one block at most
pub block_once : (bytes : List ℕ) (a b : List Mark) → IsBlock bytes a → IsBlock bytes b → a ≡ b
block_once bytes a b is_a is_b =
    let e = sym (body_parts bytes a is_a) ∙ body_parts bytes b is_b in
    let parts = same_parts 4 (number (length a)) (number (length b)) (marks_bytes a ++ is_a.gate ∷ is_a.rest) (marks_bytes b ++ is_b.gate ∷ is_b.rest) (length-number (length a)) (length-number (length b)) e in
    let len = number_once (length a) (length b) (small_count (length a) is_a.few) (small_count (length b) is_b.few) parts.0 in
    marks_once a b (is_a.gate ∷ is_a.rest) (is_b.gate ∷ is_b.rest) len (recursion_from_All Fits a is_a.fits) (recursion_from_All Fits b is_b.fits) parts.1

-- ---- from bytes

pub number_read : (bytes : List ℕ) (n : ℕ) → 4 ≤ length bytes → ((i : ℕ) → get_or bytes i 0 < 256) → n ≡ from_be_bytes w32 (get_or bytes 0 0 ∷ get_or bytes 1 0 ∷ get_or bytes 2 0 ∷ get_or bytes 3 0 ∷ []) → number n ++ drop 4 bytes ≡ bytes
unfolding number
number_read [] n long fits is = absurd (omega (arith, long))
number_read (a ∷ []) n long fits is = absurd (omega (arith, long))
number_read (a ∷ b ∷ []) n long fits is = absurd (omega (arith, long))
number_read (a ∷ b ∷ c ∷ []) n long fits is = absurd (omega (arith, long))
number_read (a ∷ b ∷ c ∷ d ∷ rest) n long fits is = ap (λ (l : List ℕ). l ++ rest) (be_bytes_4 (a ∷ b ∷ c ∷ d ∷ []) n refl each is)
  where
    each : (i : ℕ) → get_or (a ∷ b ∷ c ∷ d ∷ []) i 0 < 256
    each zero = fits 0
    each (suc zero) = fits 1
    each (suc (suc zero)) = fits 2
    each (suc (suc (suc zero))) = fits 3
    each (suc (suc (suc (suc i)))) = omega arith

-- what stands behind a place, as a slice has it
pub tail_is : (n : ℕ) (xs : List ℕ) → take (length xs - n) (drop n xs) ≡ drop n xs
tail_is n xs = take_all (length xs - n) (drop n xs) (omega (arith, length-drop n xs))

pub mark_read : (bytes : List ℕ) (m : Mark) → number m.shift ++ drop 4 bytes ≡ bytes → number m.painter ++ drop 4 (drop 4 bytes) ≡ drop 4 bytes → number m.number ++ drop 4 (drop 8 bytes) ≡ drop 8 bytes → mark_bytes m ++ drop 12 bytes ≡ bytes
mark_read bytes m s p n =
    let s8 : drop 4 (drop 4 bytes) ≡ drop 8 bytes = drop-drop 4 4 bytes in
    let s12 : drop 4 (drop 8 bytes) ≡ drop 12 bytes = drop-drop 4 8 bytes in
    append_assoc (number m.shift ++ number m.painter) (number m.number) (drop 12 bytes)
    ∙ ap (λ (l : List ℕ). (number m.shift ++ number m.painter) ++ (number m.number ++ l)) (sym s12)
    ∙ ap (λ (l : List ℕ). (number m.shift ++ number m.painter) ++ l) (n ∙ sym s8)
    ∙ append_assoc (number m.shift) (number m.painter) (drop 4 (drop 4 bytes))
    ∙ ap (λ (l : List ℕ). number m.shift ++ l) p ∙ s

marks-push : (marks : List Mark) (m : Mark) → marks_bytes (marks ++ m ∷ []) ≡ marks_bytes marks ++ mark_bytes m
marks-push [] m = append-nil (mark_bytes m)
marks-push (x ∷ marks) m = ap (λ (l : List ℕ). mark_bytes x ++ l) (marks-push marks m) ∙ sym (append_assoc (mark_bytes x) (marks_bytes marks) (mark_bytes m))

pub decoded_more : (marks next : List Mark) (m : Mark) (bytes : List ℕ) (i : ℕ) → next ≡ marks ++ m ∷ [] → mark_bytes m ++ drop 12 (drop (12 * i) bytes) ≡ drop (12 * i) bytes → marks_bytes marks ++ drop (12 * i) bytes ≡ bytes → marks_bytes next ++ drop (12 * (i + 1)) bytes ≡ bytes
decoded_more marks next m bytes i is here so_far =
    let place : drop 12 (drop (12 * i) bytes) ≡ drop (12 * (i + 1)) bytes = drop-drop 12 (12 * i) bytes ∙ ap (λ (k : ℕ). drop k bytes) (omega arith) in
    ap (λ (ms : List Mark). marks_bytes ms ++ drop (12 * (i + 1)) bytes) is ∙ ap (λ (l : List ℕ). l ++ drop (12 * (i + 1)) bytes) (marks-push marks m) ∙ append_assoc (marks_bytes marks) (mark_bytes m) (drop (12 * (i + 1)) bytes)
    ∙ ap (λ (l : List ℕ). marks_bytes marks ++ (mark_bytes m ++ l)) (sym place) ∙ ap (λ (l : List ℕ). marks_bytes marks ++ l) here ∙ so_far

-- too few bytes for a block
pub short_block : (bytes : List ℕ) → length bytes < 4 → NoBlock bytes
short_block bytes lt block is = absurd (omega (arith, lt, length-block bytes block is))

count_is : (bytes : List ℕ) (n : ℕ) (block : List Mark) → n < 2 ^ 32 → number n ++ drop 4 bytes ≡ bytes → IsBlock bytes block → n ≡ length block
count_is bytes n block lt read is =
    let parts = same_parts 4 (number n) (number (length block)) (drop 4 bytes) (marks_bytes block ++ is.gate ∷ is.rest) (length-number n) (length-number (length block)) (read ∙ body_parts bytes block is) in
    number_once n (length block) lt (small_count (length block) is.few) parts.0

pub no_count : (bytes : List ℕ) (n : ℕ) → n < 2 ^ 32 → number n ++ drop 4 bytes ≡ bytes → n ≡ 0 → NoBlock bytes
no_count bytes n lt read none block is = absurd (omega (arith, count_is bytes n block lt read is, none, is.some))

pub great_count : (bytes : List ℕ) (n : ℕ) → n < 2 ^ 32 → number n ++ drop 4 bytes ≡ bytes → BLOCK_MARKS < n → NoBlock bytes
great_count bytes n lt read great block is = absurd (omega (arith, count_is bytes n block lt read is, great, is.few))

pub cut_block : (bytes : List ℕ) (n : ℕ) → n < 2 ^ 32 → number n ++ drop 4 bytes ≡ bytes → length (drop 4 bytes) ≤ 12 * n → NoBlock bytes
cut_block bytes n lt read short block is = absurd (omega (arith, count_is bytes n block lt read is, short, length-drop 4 bytes, length-block bytes block is))

pub whole_block : (bytes : List ℕ) (n : ℕ) (marks : List Mark) → 1 ≤ n → n ≤ BLOCK_MARKS → number n ++ drop 4 bytes ≡ bytes → 12 * n < length (drop 4 bytes) → length marks ≡ n → All Fits marks → marks_bytes marks ++ drop (12 * n) (drop 4 bytes) ≡ drop 4 bytes → IsBlock bytes marks
unfolding body_of
whole_block bytes n marks some few read long len fits decoded =
    let rest = drop 4 bytes in
    record {
      some = omega (arith, some, len);
      few = omega (arith, few, len);
      fits = fits;
      gate = get_or rest (12 * n) 0;
      rest = drop (12 * n + 1) rest;
      parts =
          sym read ∙ ap (λ (l : List ℕ). number n ++ l) (sym decoded ∙ ap (λ (l : List ℕ). marks_bytes marks ++ l) (drop_more rest (12 * n) 0 long))
          ∙ ap (λ (k : ℕ). number k ++ (marks_bytes marks ++ get_or rest (12 * n) 0 ∷ drop (12 * n + 1) rest)) (sym len)
          ∙ sym (append_assoc (number (length marks)) (marks_bytes marks) (get_or rest (12 * n) 0 ∷ drop (12 * n + 1) rest));
    }

-- ---- block by block

pub start_read : (rule : Rule) (digest bytes : List ℕ) (marks : List Mark) → marks ≡ [] → HasHeader digest bytes → ReadTo rule digest bytes marks 36 0
start_read rule digest bytes marks none has =
    let len = length-take-le 36 bytes (omega (arith, has.within)) in
    record {
      blocks = [];
      rest = drop 36 bytes;
      parts = sym (take-append-drop 36 bytes) ∙ ap (λ (l : List ℕ). l ++ drop 36 bytes) (has.same ∙ sym (append-nil (header digest)));
      good = tt;
      marks_are = none;
      place_is = sym len ∙ ap length (has.same ∙ sym (append-nil (header digest)));
      count_is = refl;
      within = has.within;
    }

module _ (rule : Rule) (digest bytes : List ℕ) (marks : List Mark) (place count : ℕ) (read : ReadTo rule digest bytes marks place count) where
  rest_is : read.rest ≡ get_or bytes place 0 ∷ drop (place + 1) bytes
  rest_is = sym (drop_at (front digest read.blocks) read.rest place (sym read.place_is)) ∙ ap (λ (l : List ℕ). drop place l) (sym read.parts) ∙ drop_more bytes place 0 read.within

  all_is : bytes ≡ front digest read.blocks ++ get_or bytes place 0 ∷ drop (place + 1) bytes
  all_is = read.parts ∙ ap (λ (l : List ℕ). front digest read.blocks ++ l) rest_is

  pub read_stands : get_or bytes place 0 ≢ 1 → StandsTo rule digest bytes marks place
  read_stands shut = record {
    blocks = read.blocks;
    gate = get_or bytes place 0;
    rest = drop (place + 1) bytes;
    parts = all_is;
    shut = shut;
    good = read.good;
    marks_are = read.marks_are;
    place_is = read.place_is;
  }

  module _ (starts : get_or bytes place 0 ≡ 1) where
    opens : bytes ≡ front digest read.blocks ++ 1 ∷ drop (place + 1) bytes
    opens = all_is ∙ ap (λ (g : ℕ). front digest read.blocks ++ g ∷ drop (place + 1) bytes) starts

    pub broken_none : NoBlock (drop (place + 1) bytes) → BrokenAt rule digest bytes count
    broken_none none = record { blocks = read.blocks; rest = drop (place + 1) bytes; parts = opens; good = read.good; count = read.count_is; bad = λ block is good. none block is }

    pub broken_rule : (block : List Mark) → IsBlock (drop (place + 1) bytes) block → rule marks block ≡ false → BrokenAt rule digest bytes count
    broken_rule block is refused = record {
      blocks = read.blocks;
      rest = drop (place + 1) bytes;
      parts = opens;
      good = read.good;
      count = read.count_is;
      bad = λ other is_other good. clash (rule marks block) refused
          (subst (λ (b : List Mark). rule marks b ≡ true) (block_once (drop (place + 1) bytes) other block is_other is) (subst (λ (ms : List Mark). rule ms other ≡ true) (sym read.marks_are) good.allowed));
    }
      where
        clash : (b : Bool) → b ≡ false → b ≡ true → ⊥
        clash b shut is_true = absurd cc

    pub next_read : (block next : List Mark) → next ≡ marks ++ block → IsBlock (drop (place + 1) bytes) block → rule marks block ≡ true → ReadTo rule digest bytes next (place + 5 + 12 * length block) (count + 1)
    next_read block next same is allowed =
        let good : IsGood rule (joined read.blocks) block = record { some = is.some; few = is.few; fits = is.fits; allowed = subst (λ (ms : List Mark). rule ms block ≡ true) read.marks_are allowed } in
        let fronts = front-push digest read.blocks block in
        let len = ap length fronts in
        let behind = length-block (drop (place + 1) bytes) block is in
        record {
          blocks = read.blocks ++ block ∷ [];
          rest = is.gate ∷ is.rest;
          parts =
              opens ∙ ap (λ (l : List ℕ). front digest read.blocks ++ 1 ∷ l) is.parts ∙ sym (append_assoc (front digest read.blocks) (1 ∷ body_of block) (is.gate ∷ is.rest))
              ∙ ap (λ (l : List ℕ). l ++ is.gate ∷ is.rest) (sym fronts);
          good = good-next rule read.blocks block read.good good;
          marks_are = same ∙ ap (λ (l : List Mark). l ++ block) read.marks_are ∙ sym (joined-push read.blocks block);
          place_is = omega (arith, len, length-append (front digest read.blocks) (1 ∷ body_of block), length-body block, read.place_is);
          count_is = omega (arith, read.count_is, length-append read.blocks (block ∷ []));
          within = omega (arith, behind, length-drop (place + 1) bytes, read.within);
        }

pub blocks_length : (rule : Rule) (before : List Mark) (blocks : List (List Mark)) → AllGood rule before blocks → length (blocks_bytes blocks) ≤ 17 * length (joined blocks)
blocks_length rule before [] good = omega arith
blocks_length rule before (block ∷ blocks) good =
    let others = blocks_length rule (before ++ block) blocks good.1 in
    omega (arith, others, length-append (1 ∷ body_of block) (blocks_bytes blocks), length-body block, length-append block (joined blocks), good.0.some)

-- the place behind the blocks is not far
pub place_near : (rule : Rule) (digest bytes : List ℕ) (marks : List Mark) (place : ℕ) → length digest ≡ 32 → StandsTo rule digest bytes marks place → place ≤ 36 + 17 * length marks
place_near rule digest bytes marks place len stands =
    omega (arith, blocks_length rule [] stands.blocks stands.good, stands.place_is, length-append (header digest) (blocks_bytes stands.blocks), len, ap length stands.marks_are)
