-- What the first bytes of a file tell of the whole: where they are enough for the last block and one behind it, all.
use Rattle.std.proofs.Common.{◌≡◌, ◌⊎◌, inl, inr, ℕ, ◌+◌, ◌*◌, ◌<◌, ◌≤◌, List, [], ◌∷◌, ◌++◌, length, take, drop, sym, ◌∙◌, ap, subst, arith, append_assoc, length-append, take-append-drop}
use Rattle.std.proofs.lemmas.Bool.{cases_lt}
use Rattle.std.proofs.lemmas.List.{take_at, take_all, take-append-le, get_or_append_left, length-take-le}
use Rattle.block_journal.specs.declared.mark.Mark.{Mark}
use Rattle.block_journal.specs.declared.open.KeepRefusal.{KeepRefusal}
use Rattle.block_journal.specs.declared.open.KeepRefusal.TheVariants.{Fault, NotJournal, Broken, OutOfMemory}
use Rattle.block_journal.specs.Journals.{Rule, AllGood, StandsTo, body_of, front, blocks_bytes, header, joined}
use Rattle.block_journal.specs.Opens.{IsBlock, NotJournalAt, BrokenAt, MatchRefusal, RefusedFor}
use Rattle.block_journal.proofs.Blocks.{length-body}
use Rattle.block_journal.proofs.Reading.{blocks_length}

-- good blocks have so many marks at most
abbrev pub Bounds : Rule → ℕ → Type 0
Bounds rule most = (blocks : List (List Mark)) → AllGood rule [] blocks → length (joined blocks) ≤ most

module _ (bytes more : List ℕ) where
  pub stands_longer : (rule : Rule) (digest : List ℕ) (marks : List Mark) (place : ℕ) → StandsTo rule digest bytes marks place → StandsTo rule digest (bytes ++ more) marks place
  stands_longer rule digest marks place s = record {
    blocks = s.blocks;
    gate = s.gate;
    rest = s.rest ++ more;
    parts = ap (λ (l : List ℕ). l ++ more) s.parts ∙ append_assoc (front digest s.blocks) (s.gate ∷ s.rest) more;
    shut = s.shut;
    good = s.good;
    marks_are = s.marks_are;
    place_is = s.place_is;
  }

  pub not_journal_longer : (digest : List ℕ) (at : ℕ) → 36 < length bytes → NotJournalAt digest bytes at → NotJournalAt digest (bytes ++ more) at
  not_journal_longer digest at long isnt = record {
    same = take-append-le at bytes more (omega (arith, isnt.early, long)) ∙ isnt.same;
    early = isnt.early;
    here = elim isnt.here [
      | inl short ↦ absurd (omega (arith, short, isnt.early, long))
      | inr differs ↦ inr (differs.0, omega (arith, differs.1, length-append bytes more), λ e. differs.2 (sym (get_or_append_left bytes more 0 at differs.1) ∙ e))
    ];
  }

  -- a block that these bytes are enough for
  cut_block : (block : List Mark) → 5 + 12 * length block ≤ length bytes → IsBlock (bytes ++ more) block → IsBlock bytes block
  cut_block block long is =
      let size = 5 + 12 * length block in
      let len : length (body_of block ++ is.gate ∷ []) ≡ size = omega (arith, length-append (body_of block) (is.gate ∷ []), length-body block) in
      let first : take size bytes ≡ body_of block ++ is.gate ∷ [] =
      sym (take-append-le size bytes more long) ∙ ap (λ (l : List ℕ). take size l) (is.parts ∙ sym (append_assoc (body_of block) (is.gate ∷ []) is.rest))
      ∙ take_at (body_of block ++ is.gate ∷ []) is.rest size len in
      record {
        some = is.some;
        few = is.few;
        fits = is.fits;
        gate = is.gate;
        rest = drop size bytes;
        parts = sym (take-append-drop size bytes) ∙ ap (λ (l : List ℕ). l ++ drop size bytes) first ∙ append_assoc (body_of block) (is.gate ∷ []) (drop size bytes);
      }

module _ (rule : Rule) (most : ℕ) (bounds : Bounds rule most) (few : most ≤ 65536) (digest : List ℕ) (len : length digest ≡ 32) where
  front_near : (blocks : List (List Mark)) → AllGood rule [] blocks → length (front digest blocks) ≤ 36 + 17 * 65536
  front_near blocks good =
      omega (arith, blocks_length rule [] blocks good, bounds blocks good, few, length-append (header digest) (blocks_bytes blocks), len)

  pub broken_longer : (bytes more : List ℕ) (k : ℕ) → 2097152 ≤ length bytes → BrokenAt rule digest bytes k → BrokenAt rule digest (bytes ++ more) k
  broken_longer bytes more k long broken =
      let near = front_near broken.blocks broken.good in
      let behind = ap length broken.parts in
      record {
        blocks = broken.blocks;
        rest = broken.rest ++ more;
        parts = ap (λ (l : List ℕ). l ++ more) broken.parts ∙ append_assoc (front digest broken.blocks) (1 ∷ broken.rest) more;
        good = broken.good;
        count = broken.count;
        bad = λ block is good. broken.bad block
            (cut_block broken.rest more block (omega (arith, near, behind, length-append (front digest broken.blocks) (1 ∷ broken.rest), long, is.few)) is) good;
      }

  -- the first bytes of a file are the whole, or as many as are read
  front_of : (all : List ℕ) → (take 2097152 all ≡ all) ⊎ (2097152 ≤ length (take 2097152 all))
  front_of all = elim (cases_lt 2097152 (length all)) [
    | inl lt ↦ inr (omega (arith, length-take-le 2097152 all (omega (arith, lt))))
    | inr ge ↦ inl (take_all 2097152 all (omega (arith, ge)))
  ]

  pub stands_whole : (all : List ℕ) (marks : List Mark) (place : ℕ) → StandsTo rule digest (take 2097152 all) marks place → StandsTo rule digest all marks place
  stands_whole all marks place s =
      subst (λ (l : List ℕ). StandsTo rule digest l marks place) (take-append-drop 2097152 all) (stands_longer (take 2097152 all) (drop 2097152 all) rule digest marks place s)

  pub refused_whole : (all : List ℕ) (refusal : KeepRefusal) → 0 < length all → MatchRefusal refusal ⊥ (λ at. NotJournalAt digest (take 2097152 all) at) (λ k. BrokenAt rule digest (take 2097152 all) k) → RefusedFor rule digest all refusal
  refused_whole all Fault some refused = tt
  refused_whole all OutOfMemory some refused = tt
  refused_whole all (NotJournal at) some refused = (
    some,
    elim (front_of all) [
      | inl whole ↦ subst (λ (l : List ℕ). NotJournalAt digest l at) whole refused
      | inr long ↦ subst (λ (l : List ℕ). NotJournalAt digest l at) (take-append-drop 2097152 all) (not_journal_longer (take 2097152 all) (drop 2097152 all) digest at (omega (arith, long)) refused)
    ],
  )
  refused_whole all (Broken k) some refused = elim (front_of all) [
    | inl whole ↦ subst (λ (l : List ℕ). BrokenAt rule digest l k) whole refused
    | inr long ↦ subst (λ (l : List ℕ). BrokenAt rule digest l k) (take-append-drop 2097152 all) (broken_longer (take 2097152 all) (drop 2097152 all) k long refused)
  ]
