-- What a loom's part of a shift leaves, one part after another.
use Rattle.std.proofs.Common.{◌≡◌, ◌+◌, ◌-◌, ◌^◌, ◌<◌, ◌≤◌, ℕ, List, [], ◌∷◌, ◌++◌, length, length-append, map, min, Option, Some, sym, ap, subst, ◌∙◌, arith, append-nil, append_assoc, inl, inr}
use Rattle.std.specs.Prelude.{All, slice_get}
use Rattle.std.specs.Option.{option_map_or}
use Rattle.std.specs.List.Sorted.{IsNonDecreasing}
use Rattle.std.proofs.lemmas.List.{map-append}
use Rattle.std.proofs.lemmas.List.Elements.{All-append, All-map}
use Rattle.std.proofs.lemmas.List.Sorted.{IsNonDecreasingBy-short}
use Rattle.std.proofs.lemmas.Option.{slice_get_within}
use Rattle.version_journal.specs.declared.run_log.Repeat.{Repeat}
use Rattle.shed_publish.specs.declared.newest.Version.{Version}
use Rattle.shed_publish.specs.Ends.{EndValue, EndsWith}
use Rattle.shed_publish.specs.Versions.{IsPrefix, IsPublished}
use Rattle.shed_publish.proofs.lemmas.Prefixes.{prefix_refl, prefix_trans}
use Rattle.shed_publish.proofs.lemmas.Published.{numbered}
use Rattle.loom_threads.specs.Looms.{AreOf, IsShown, Knows, KnowsOr, LoomValue, Wove, list_of, missed_of, readings_of}
use Rattle.loom_threads.proofs.lemmas.Joined.{all_mono, all_one, kept, last_item, never_fall}

-- ---- repeats

pub shown_later : (loom : LoomValue) (list more : List Version) (woven : Repeat) → IsPrefix list more → IsShown loom list woven → IsShown loom more woven
shown_later loom list more woven p s = record {
  cards = s.cards;
  entry = subst (λ (l : List Version). slice_get l woven.version ≡ Some (record { version = woven.version; cards = s.cards })) (sym p.1) (kept list p.0 woven.version _ s.entry);
  repeat = s.repeat;
}

-- they are those of the longer list
pub are_later : (loom : LoomValue) (shift first : ℕ) (list more : List Version) (new : List Repeat) → IsPrefix list more → AreOf loom shift first list new → AreOf loom shift first more new
are_later loom shift first list more new p a = record {
  of_shift = a.of_shift;
  versions_rise = a.versions_rise;
  no_older = a.no_older;
  shown = all_mono (IsShown loom list) (IsShown loom more) new (λ r s. shown_later loom list more r p s) a.shown;
}

pub are_none : (loom : LoomValue) (shift first : ℕ) (list : List Version) → AreOf loom shift first list []
are_none loom shift first list = record {
  of_shift = λ i d h. absurd (omega arith);
  versions_rise = λ i j d up h. absurd (omega arith);
  no_older = λ i d h. absurd (omega arith);
  shown = λ i d h. absurd (omega arith);
}

pub are_one : (loom : LoomValue) (shift first : ℕ) (list : List Version) (woven : Repeat) → woven.shift ≡ shift → first ≤ woven.version → IsShown loom list woven
    → AreOf loom shift first list (woven ∷ [])
are_one loom shift first list woven of low s = record {
  of_shift = all_one (λ (r : Repeat). r.shift ≡ shift) woven of;
  versions_rise = IsNonDecreasingBy-short (λ x. x) (woven.version ∷ []) (omega arith);
  no_older = all_one (λ (r : Repeat). first ≤ r.version) woven low;
  shown = all_one (IsShown loom list) woven s;
}

below : (loom : LoomValue) (shift first : ℕ) (list : List Version) (new : List Repeat) → AreOf loom shift first list new → All (λ (r : Repeat). r.version < length list) new
below loom shift first list new a = all_mono (IsShown loom list) (λ (r : Repeat). r.version < length list) new (λ r s. slice_get_within list r.version _ s.entry) a.shown

-- repeats of a list, and behind them repeats of a longer one
pub are_more : (loom : LoomValue) (shift first : ℕ) (list more : List Version) (xs ys : List Repeat) → IsPrefix list more → AreOf loom shift first list xs → AreOf loom shift first more ys
    → All (λ (r : Repeat). length list - 1 ≤ r.version) ys → AreOf loom shift first more (xs ++ ys)
are_more loom shift first list more xs ys p a b later =
    let version = λ (r : Repeat). r.version in
    let low : All (λ n. n ≤ length list - 1) (map version xs) =
    All-map (λ n. n ≤ length list - 1) version xs
    (all_mono (λ (r : Repeat). r.version < length list) (λ (r : Repeat). r.version ≤ length list - 1) xs (λ r h. omega arith) (below loom shift first list xs a))
    in
    record {
      of_shift = All-append (λ (r : Repeat). r.shift ≡ shift) xs ys a.of_shift b.of_shift;
      versions_rise = subst IsNonDecreasing (sym (map-append version xs ys))
          (never_fall (map version xs) (map version ys) (length list - 1) a.versions_rise b.versions_rise low (All-map (λ n. length list - 1 ≤ n) version ys later));
      no_older = All-append (λ (r : Repeat). first ≤ r.version) xs ys a.no_older b.no_older;
      shown = All-append (IsShown loom more) xs ys (are_later loom shift first list more xs p a).shown b.shown;
    }

-- a loom's kind alone decides what it weaves
pub are_alike : (one other : LoomValue) (shift first : ℕ) (list : List Version) (new : List Repeat)
    → other ≡ record one { end = other.end; repeats = other.repeats; spare = other.spare } → AreOf other shift first list new → AreOf one shift first list new
are_alike one other shift first list new same a =
    let b : AreOf (record one { end = other.end; repeats = other.repeats; spare = other.spare }) shift first list new = subst (λ (loom : LoomValue). AreOf loom shift first list new) same a in
    record {
      of_shift = b.of_shift;
      versions_rise = b.versions_rise;
      no_older = b.no_older;
      shown = all_mono (IsShown (record one { end = other.end; repeats = other.repeats; spare = other.spare }) list) (IsShown one list) new
          (λ r s. record { cards = s.cards; entry = s.entry; repeat = s.repeat }) b.shown;
    }

-- the last entry of a published list: its version is its place
pub last_is : (list : List Version) (v : Version) → IsPublished list → EndsWith list v → (v.version + 1 ≡ length list) × (slice_get list v.version ≡ Some v)
last_is list v published ends =
    let before = ends.0 in
    let here : slice_get list (length before) ≡ Some v = subst (λ (l : List Version). slice_get l (length before) ≡ Some v) (sym ends.1) (last_item before v) in
    let place : v.version ≡ length before = numbered list (length before) v published here in (
      omega (arith, place, ap length ends.1, length-append before (v ∷ [])),
      ap (slice_get list) place ∙ here,
    )

-- ---- a loom's part

-- what is known of the list that the loom read last
pub knows_own : (told : List Version) (loom : LoomValue) → Knows told loom → Knows (list_of loom) loom
knows_own told loom k = record {
  end = k.end;
  is = k.is;
  knows = inl (subst (λ (l : List Version). IsPrefix l k.end.list) (sym (ap (λ (o : Option EndValue). option_map_or (λ (e : EndValue). e.list) o []) k.is)) (prefix_refl k.end.list));
}

-- the loom knows what it was told, where no place was refused
pub knows_unless : (told : List Version) (loom : LoomValue) (before now : ℕ) → KnowsOr told loom before now → now ≡ before → before < 2 ^ 64 - 1 → Knows told loom
knows_unless told loom before now (inl k) same low = k.0
knows_unless told loom before now (inr rose) same low = absurd (omega arith)

-- nothing was woven, and no reading counted
pub wove_none : (shift : ℕ) (before after : LoomValue) → after ≡ record before { end = after.end } → IsPrefix (list_of before) (list_of after)
    → ((told : List Version) → Knows told before → Knows told after) → readings_of after ≡ readings_of before → missed_of before ≤ missed_of after
    → Wove shift before after
wove_none shift before after same later knows readings missed = record {
  new = [];
  are = ap (λ (l : LoomValue). l.repeats) same ∙ sym (append-nil before.repeats);
  same = same ∙ ap (λ (l : LoomValue). record before { end = after.end; repeats = l.repeats; spare = l.spare }) (sym same);
  spare = omega (arith, ap (λ (l : LoomValue). l.spare) same);
  later = later;
  knows = knows;
  woven = λ told h. are_none before shift (length told - 1) (list_of after);
  readings = omega (arith, readings);
  no_more = omega (arith, readings);
  missed = missed;
}

pub wove_then : (shift : ℕ) (a b c : LoomValue) → Wove shift a b → Wove shift b c → Wove shift a c
wove_then shift a b c x y = record {
  new = x.new ++ y.new;
  are = y.are ∙ ap (λ l. l ++ y.new) x.are ∙ append_assoc a.repeats x.new y.new;
  same = y.same ∙ ap (λ (l : LoomValue). record l { end = c.end; repeats = c.repeats; spare = c.spare }) x.same;
  spare = omega (arith, x.spare, y.spare, length-append x.new y.new);
  later = prefix_trans (list_of a) (list_of b) (list_of c) x.later y.later;
  knows = λ told h. y.knows told (x.knows told h);
  woven = λ told h.
      let k = x.knows told h in
      let one = are_alike a b shift (length told - 1) (list_of c) y.new x.same (y.woven told k) in
      are_more a shift (length told - 1) (list_of b) (list_of c) x.new y.new y.later (x.woven told h) one (y.woven (list_of b) (knows_own told b k)).no_older;
  readings = omega (arith, x.readings, y.readings, length-append x.new y.new);
  no_more = omega (arith, x.no_more, y.no_more, length-append x.new y.new);
  missed = omega (arith, x.missed, y.missed);
}
