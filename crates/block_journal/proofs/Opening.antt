-- What a disk that is opened tells.
use Rattle.std.proofs.Common.{◌≡◌, ◌⊎◌, inl, inr, ℕ, ◌+◌, ◌-◌, ◌≤◌, ◌<◌, min, List, [], ◌∷◌, ◌++◌, length, take, drop, Option, Some, None, Result, Ok, Err, refl, sym, ◌∙◌, ap, subst, arith, length-append}
use Rattle.std.specs.Prelude.{IfSome, IfOk, IfErr, option_map}
use Rattle.std.proofs.lemmas.Bool.{cases_lt}
use Rattle.std.proofs.lemmas.List.{take_all, take_at, drop_all, append-nil, length-take-le}
use Rattle.journal_disk.specs.declared.call.Call.TheVariants.{Write, Sync}
use Rattle.block_journal.specs.declared.open.KeepRefusal.{KeepRefusal}
use Rattle.block_journal.specs.declared.open.KeepRefusal.TheVariants.{Fault, NotJournal, Broken, OutOfMemory}
use Rattle.journal_disk.specs.Disks.{Log, State, AtRest, put_over, seen, state, stepped, with_call}
use Rattle.journal_disk.specs.Told.{BothTold}
use Rattle.block_journal.specs.declared.mark.Mark.{Mark}
use Rattle.block_journal.specs.Journals.{Rule, JournalView, StandsTo, header}
use Rattle.block_journal.specs.Keeps.{IsKept}
use Rattle.block_journal.specs.Opens.{MatchRefusal, NotJournalAt, BrokenAt, OnlySynced, RefusedFor}
use Rattle.journal_disk.proofs.lemmas.Logs.{state-more}
use Rattle.block_journal.proofs.Longer.{Bounds, stands_whole, refused_whole}

-- a sync changes nothing of what a read gives
seen_synced : (a : Log) → seen (with_call a Sync) ≡ seen a
seen_synced a = ap (λ (s : State). s.seen) (state-more a Sync)

-- a read of the first bytes
front_is : (all before out kept : List ℕ) (len count : ℕ) → len ≡ length all → length before ≡ min len 2097152 → count ≡ min (length before) (length all - 0) → out ≡ take count (drop 0 all) ++ drop count before → kept ≡ take count out
    → kept ≡ take 2097152 all
front_is all before out kept len count is_len long counted read is =
    let some : count ≡ length before = omega (arith, is_len, long, counted) in
    let size : length (take count all) ≡ count = length-take-le count all (omega (arith, is_len, long, counted)) in
    is ∙ ap (λ (l : List ℕ). take count l) read ∙ take_at (take count all) (drop count before) count size ∙ shorter
  where
    shorter : take count all ≡ take 2097152 all
    shorter = elim (cases all) [
      | inl less ↦ take_all count all (omega (arith, is_len, long, counted, less)) ∙ sym (take_all 2097152 all less)
      | inr more ↦ let whole : count ≡ 2097152 = omega (arith, is_len, long, counted, more) in ap (λ (n : ℕ). take n all) whole
    ]
      where
        cases : (xs : List ℕ) → (length xs ≤ 2097152) ⊎ (2097152 < length xs)
        cases xs = elim (cases_lt 2097152 (length xs)) [ inl lt ↦ inr lt | inr ge ↦ inl ge ]

pub front_read : (t : Option Log) (before out kept : List ℕ) (len count : ℕ) → IfSome t (λ log. len ≡ length (seen log)) → length before ≡ min len 2097152
    → (count ≤ length before) × IfSome t (λ log. (count ≡ min (length before) (length (seen log) - 0)) × (out ≡ take count (drop 0 (seen log)) ++ drop count before))
    → kept ≡ take count out → IfSome t (λ log. kept ≡ take 2097152 (seen log))
front_read None before out kept len count is_len long read is = tt
front_read (Some a) before out kept len count is_len long read is = front_is (seen a) before out kept len count is_len long read.1.0 read.1.1 is

-- what is kept of a vector that was read into
pub kept_of : (count len : ℕ) (kept out more : List ℕ) → kept ≡ take count (take len (out ++ more)) → length out ≡ len → kept ≡ take count out
kept_of count len kept out more is long = is ∙ ap (λ (l : List ℕ). take count l) (take_at out more len long)

-- a disk without bytes that got the header
header_there : (rule : Rule) (digest bytes : List ℕ) → length digest ≡ 32 → bytes ≡ header digest ++ 0 ∷ [] → StandsTo rule digest bytes [] 36
header_there rule digest bytes len is = record {
  blocks = [];
  gate = 0;
  rest = [];
  parts = is ∙ ap (λ (l : List ℕ). l ++ 0 ∷ []) (sym (append-nil (header digest)));
  shut = λ e. absurd cc;
  good = tt;
  marks_are = refl;
  place_is = omega (arith, len, length-append (header digest) []);
}

pub header_kept : (rule : Rule) (v : Option Log) (k : JournalView) (digest : List ℕ) → length digest ≡ 32 → IfSome v (λ log. AtRest log × (seen log ≡ header digest ++ 0 ∷ []))
    → k.digest ≡ digest → k.marks ≡ [] → k.place ≡ 36 → IsKept rule v k
header_kept rule None k digest len put same none place = tt
header_kept rule (Some a) k digest len put same none place = (
  put.0,
  subst (λ (d : List ℕ). StandsTo rule d (seen a) k.marks k.place) (sym same)
      (subst (λ (n : ℕ). StandsTo rule digest (seen a) k.marks n) (sym place) (subst (λ ms. StandsTo rule digest (seen a) ms 36) (sym none) (header_there rule digest (seen a) len put.1))),
)

module _ (t u : Option Log) (synced : u ≡ option_map (λ log. with_call log Sync) t) where
  pub only_synced : (v : Option Log) → v ≡ u → BothTold t v (λ old new. 0 < length (seen old) → OnlySynced old new)
  only_synced v same = subst (λ (w : Option Log). BothTold t w (λ old new. 0 < length (seen old) → OnlySynced old new)) (sym (same ∙ synced)) (here t)
    where
      here : (w : Option Log) → BothTold w (option_map (λ log. with_call log Sync) w) (λ old new. 0 < length (seen old) → OnlySynced old new)
      here None = refl
      here (Some a) = λ some. inr refl

  pub rested : (v : Option Log) → v ≡ u → IfSome v AtRest
  rested v same = subst (λ (w : Option Log). IfSome w AtRest) (sym (same ∙ synced)) (here t)
    where
      here : (w : Option Log) → IfSome (option_map (λ log. with_call log Sync) w) AtRest
      here None = tt
      here (Some a) = ap (λ (s : State). s.pending) (state-more a Sync)

  -- a disk without bytes, and whatever it tells later
  pub no_bytes : (v : Option Log) (len : ℕ) → IfSome u (λ log. len ≡ length (seen log)) → len ≡ 0 → BothTold u v (λ old new. Unit {0}) → BothTold t v (λ old new. 0 < length (seen old) → OnlySynced old new)
  no_bytes v len is none told = here t v (subst (λ (w : Option Log). IfSome w (λ log. len ≡ length (seen log))) synced is) (subst (λ (w : Option Log). BothTold w v (λ old new. Unit {0})) synced told)
    where
      here : (w x : Option Log) → IfSome (option_map (λ log. with_call log Sync) w) (λ log. len ≡ length (seen log)) → BothTold (option_map (λ log. with_call log Sync) w) x (λ old new. Unit {0})
          → BothTold w x (λ old new. 0 < length (seen old) → OnlySynced old new)
      here None x l b = b
      here (Some a) None l b = absurd b
      here (Some a) (Some c) l b = λ some. absurd (omega (arith, some, l, none, ap length (seen_synced a)))

  pub never_empty : (len : ℕ) → IfSome u (λ log. len ≡ length (seen log)) → 0 < len → (r : Result JournalView KeepRefusal) → IfOk r (λ k. IfSome t (λ log. seen log ≡ [] → k.marks ≡ []))
  never_empty len is some (Err e) = tt
  never_empty len is some (Ok k) = here t (subst (λ (w : Option Log). IfSome w (λ log. len ≡ length (seen log))) synced is)
    where
      here : (w : Option Log) → IfSome (option_map (λ log. with_call log Sync) w) (λ log. len ≡ length (seen log)) → IfSome w (λ log. seen log ≡ [] → k.marks ≡ [])
      here None l = tt
      here (Some a) l = λ none. absurd (omega (arith, some, l, ap length (seen_synced a), ap length none))

  pub refused_before : {T : Type 0} (rule : Rule) (digest : List ℕ) (r : Result T KeepRefusal) → IfErr r (λ f. IfSome u (λ log. RefusedFor rule digest (seen log) f)) → IfErr r (λ f. IfSome t (λ log. RefusedFor rule digest (seen log) f))
  refused_before rule digest (Ok x) refused = tt
  refused_before rule digest (Err f) refused = here t (subst (λ (w : Option Log). IfSome w (λ log. RefusedFor rule digest (seen log) f)) synced refused)
    where
      here : (w : Option Log) → IfSome (option_map (λ log. with_call log Sync) w) (λ log. RefusedFor rule digest (seen log) f) → IfSome w (λ log. RefusedFor rule digest (seen log) f)
      here None b = tt
      here (Some a) b = subst (λ (l : List ℕ). RefusedFor rule digest l f) (seen_synced a) b

pub none_seen : (u : Option Log) (len : ℕ) → IfSome u (λ log. len ≡ length (seen log)) → len ≡ 0 → IfSome u (λ log. seen log ≡ [])
none_seen u len is none = here u is
  where
    empty : (xs : List ℕ) → length xs ≡ 0 → xs ≡ []
    empty [] e = refl
    empty (x ∷ xs) e = absurd (omega (arith, e))

    here : (w : Option Log) → IfSome w (λ log. len ≡ length (seen log)) → IfSome w (λ log. seen log ≡ [])
    here None l = tt
    here (Some a) l = empty (seen a) (omega (arith, l, none))

-- a journal without blocks
pub begun_empty : (t : Option Log) (r : Result JournalView KeepRefusal) → IfOk r (λ k. k.marks ≡ []) → IfOk r (λ k. IfSome t (λ log. seen log ≡ [] → k.marks ≡ []))
begun_empty t (Err e) is = tt
begun_empty None (Ok k) is = tt
begun_empty (Some a) (Ok k) is = λ none. is

pub begun_taken : (taken : List Mark) (r : Result JournalView KeepRefusal) → taken ≡ [] → IfOk r (λ k. k.marks ≡ []) → IfOk r (λ k. taken ≡ k.marks)
begun_taken taken (Err e) none is = tt
begun_taken taken (Ok k) none is = none ∙ sym is

pub begun_kept : (rule : Rule) (v : Option Log) (r : Result JournalView KeepRefusal) → IfOk r (λ k. (rule : Rule) → IsKept rule v k) → IfOk r (λ k. IsKept rule v k)
begun_kept rule v (Err e) is = tt
begun_kept rule v (Ok k) is = is rule

module _ (rule : Rule) (most : ℕ) (bounds : Bounds rule most) (few : most ≤ 65536) (t v : Option Log) (digest bytes : List ℕ) (len : length digest ≡ 32) (same : v ≡ t) (read : IfSome t (λ log. bytes ≡ take 2097152 (seen log))) where
  pub opened_stands : IfSome t AtRest → (r : Result JournalView KeepRefusal) → IfOk r (λ k. StandsTo rule digest bytes k.marks k.place) → IfOk r (λ k. k.digest ≡ digest) → IfOk r (λ k. IsKept rule v k)
  opened_stands rest (Err e) stands is = tt
  opened_stands rest (Ok k) stands is = subst (λ (w : Option Log). IsKept rule w k) (sym same) (here t rest read)
    where
      here : (w : Option Log) → IfSome w AtRest → IfSome w (λ log. bytes ≡ take 2097152 (seen log)) → IsKept rule w k
      here None q b = tt
      here (Some a) q b = (
        q,
        subst (λ (d : List ℕ). StandsTo rule d (seen a) k.marks k.place) (sym is)
            (stands_whole rule most bounds few digest len (seen a) k.marks k.place (subst (λ (l : List ℕ). StandsTo rule digest l k.marks k.place) b stands)),
      )

  pub opened_refused : {T : Type 0} (r : Result T KeepRefusal) → IfErr r (λ f. MatchRefusal f ⊥ (λ at. NotJournalAt digest bytes at) (λ k. BrokenAt rule digest bytes k))
      → (size : ℕ) → IfSome t (λ log. size ≡ length (seen log)) → 0 < size → IfErr r (λ f. IfSome t (λ log. RefusedFor rule digest (seen log) f))
  opened_refused (Ok x) refused size is some = tt
  opened_refused (Err f) refused size is some = here t is read
    where
      here : (w : Option Log) → IfSome w (λ log. size ≡ length (seen log)) → IfSome w (λ log. bytes ≡ take 2097152 (seen log)) → IfSome w (λ log. RefusedFor rule digest (seen log) f)
      here None s b = tt
      here (Some a) s b =
          refused_whole rule most bounds few digest len (seen a) f (omega (arith, s, some))
          (subst (λ (l : List ℕ). MatchRefusal f ⊥ (λ at. NotJournalAt digest l at) (λ k. BrokenAt rule digest l k)) b refused)

-- a fault, or want of memory, says nothing of what the disk holds
pub outside : {T : Type 0} (rule : Rule) (digest : List ℕ) (t : Option Log) (r : Result T KeepRefusal) → IfErr r (λ f. MatchRefusal f (Unit {0}) (λ at. ⊥) (λ k. ⊥)) → IfErr r (λ f. IfSome t (λ log. RefusedFor rule digest (seen log) f))
outside rule digest t (Ok x) refused = tt
outside rule digest None (Err f) refused = tt
outside rule digest (Some a) (Err Fault) refused = tt
outside rule digest (Some a) (Err OutOfMemory) refused = tt
outside rule digest (Some a) (Err (NotJournal at)) refused = absurd refused
outside rule digest (Some a) (Err (Broken k)) refused = absurd refused

put_first : (xs : List ℕ) → put_over [] 0 xs ≡ xs
put_first xs = ap (λ (l : List ℕ). xs ++ l) (drop_all (0 + length xs) [] (omega arith)) ∙ append-nil xs

-- the header is written over nothing, and then is on the disk
pub header_put : (t u v : Option Log) (bytes digest : List ℕ) → IfSome t (λ log. seen log ≡ []) → BothTold t u (λ old new. new ≡ with_call old (Write (record { at = 0; bytes = bytes; put = length bytes })))
    → v ≡ option_map (λ log. with_call log Sync) u → bytes ≡ header digest ++ 0 ∷ [] → IfSome v (λ log. AtRest log × (seen log ≡ header digest ++ 0 ∷ []))
header_put t u v bytes digest none wrote is all = subst (λ (w : Option Log). IfSome w (λ log. AtRest log × (seen log ≡ header digest ++ 0 ∷ []))) (sym is) (here t u none wrote)
  where
    here : (a b : Option Log) → IfSome a (λ log. seen log ≡ []) → BothTold a b (λ old new. new ≡ with_call old (Write (record { at = 0; bytes = bytes; put = length bytes })))
        → IfSome (option_map (λ log. with_call log Sync) b) (λ log. AtRest log × (seen log ≡ header digest ++ 0 ∷ []))
    here None None n w = tt
    here None (Some b) n w = absurd cc
    here (Some a) None n w = absurd w
    here (Some a) (Some b) n w =
        let write = Write (record { at = 0; bytes = bytes; put = length bytes }) in
        let after : state b ≡ stepped (state a) write = ap state w ∙ state-more a write in (
          ap (λ (s : State). s.pending) (state-more b Sync),
          seen_synced b ∙ ap (λ (s : State). s.seen) after ∙ ap (λ (l : List ℕ). put_over l 0 (take (length bytes) bytes)) n ∙ put_first (take (length bytes) bytes) ∙ take_all (length bytes) bytes (omega arith) ∙ all,
        )
