-- Repeats that looms add, and a loom's whole part of a shift.
use Rattle.std.proofs.Common.{◌≡◌, ◌⊎◌, inl, inr, MatchBool, ◌+◌, ◌-◌, ◌<◌, ◌≤◌, ℕ, zero, suc, Bool, true, false, Some, None, Option, is_some, List, [], ◌∷◌, ◌++◌, length, length-append, get_or, map, take, drop, replicate, refl, sym, ap, subst, ◌∙◌, arith, append-nil, append_assoc}
use Rattle.std.specs.Prelude.{All, slice_get}
use Rattle.std.specs.Option.{option_map_or}
use Rattle.std.specs.List.Sorted.{IsNonDecreasing}
use Rattle.std.proofs.lemmas.Bool.{cases_lt}
use Rattle.std.proofs.lemmas.List.{map-append, length-replicate, take-append-drop, take-append-le}
use Rattle.std.proofs.Math.Seq.{take-append_seam}
use Rattle.std.proofs.lemmas.List.Elements.{All-append, All-map, All-replicate}
use Rattle.std.proofs.lemmas.Option.{slice_get_within}
use Rattle.mill_base.specs.Causes.{Rose}
use Rattle.card_image.specs.Sets.{CardsValue, design_by}
use Rattle.loom_machine.specs.Machines.{MachineValue}
use Rattle.version_journal.specs.declared.run_log.Repeat.{Repeat}
use Rattle.shed_publish.specs.Ends.{EndValue, Knows as EndKnows}
use Rattle.shed_publish.specs.Versions.{IsPrefix}
use Rattle.shed_publish.specs.declared.newest.Version.{Version}
use Rattle.shed_publish.proofs.lemmas.Prefixes.{prefix_refl, prefix_trans}
use Rattle.loom_threads.specs.Looms.{AreOf, IsShown, Knows, LoomValue, Wove, list_of, missed_of, readings_of, repeat_from}
use Rattle.shift_run.specs.Runs.{HasRead, RoseBy}
use Rattle.shift_run.specs.inner.Looms.{CanFinish, DidFinish, DidPart, DidShift, DidTurns, Fills, HasMet, IsDeaf, IsReadied, Keeps, WasCut}
use Rattle.shift_run.specs.declared.looms.Part.{Part}
use Rattle.shift_run.proofs.Adding.{equal_rise}
use Rattle.shift_model.proofs.lemmas.Lists.{All_mono, kept, rises}

-- an end that sees a list knows it
pub knows_seen : (told : List Version) (loom : LoomValue) (e : Option EndValue) → loom.end ≡ e → is_some e ≡ true → option_map_or (λ (end : EndValue). end.list) e [] ≡ told → Knows told loom
knows_seen told loom (Some end) is there same = record { end = end; is = is; knows = inl ([], same ∙ sym (append-nil told)) }
knows_seen told loom None is there same = absurd (cc)

-- what two lists begin with, the shorter of which is told first
pub prefix_of_longer : (a b c : List Version) → IsPrefix a c → IsPrefix b c → length a ≤ length b → IsPrefix a b
prefix_of_longer a b c p q low =
    let n = length a in
    let front : take n b ≡ a = sym (take-append-le n b q.0 low) ∙ ap (take n) (sym q.1 ∙ p.1) ∙ take-append_seam a p.0 in
    (drop n b, sym (take-append-drop n b) ∙ ap (λ l. l ++ drop n b) front)

-- lists that begin with one list, and go on alike from a place in it
pub same_list : (told a b : List Version) (known : ℕ) → IsPrefix told a → IsPrefix told b → known ≤ length told → drop known a ≡ drop known b → a ≡ b
same_list told a b known p q low same =
    sym (take-append-drop known a) ∙ ap (λ l. l ++ drop known a) (front a p ∙ sym (front b q)) ∙ ap (λ l. take known b ++ l) same ∙ take-append-drop known b where
      front : (l : List Version) → IsPrefix told l → take known l ≡ take known told
      front l p = ap (take known) p.1 ∙ take-append-le known told p.0 low

are_later : (loom : LoomValue) (k first : ℕ) (list more : List Version) (new : List Repeat) → IsPrefix list more → AreOf loom k first list new → AreOf loom k first more new
are_later loom k first list more new p a = record {
  of_shift = a.of_shift;
  versions_rise = a.versions_rise;
  no_older = a.no_older;
  shown = All_mono (IsShown loom list) (IsShown loom more) new
      (λ r s. record {
        cards = s.cards;
        entry = subst (λ (l : List Version). slice_get l r.version ≡ Some (record { version = r.version; cards = s.cards })) (sym p.1) (kept list p.0 r.version _ s.entry);
        repeat = s.repeat;
      }) a.shown;
}

are_none : (loom : LoomValue) (k first : ℕ) (list : List Version) → AreOf loom k first list []
are_none loom k first list = record {
  of_shift = λ i d h. absurd (omega arith);
  versions_rise = λ i j d up h. absurd (omega arith);
  no_older = λ i d h. absurd (omega arith);
  shown = λ i d h. absurd (omega arith);
}

below : (loom : LoomValue) (k first : ℕ) (list : List Version) (new : List Repeat) → AreOf loom k first list new → All (λ (r : Repeat). r.version < length list) new
below loom k first list new a = All_mono (IsShown loom list) (λ (r : Repeat). r.version < length list) new (λ r s. slice_get_within list r.version _ s.entry) a.shown

-- so many repeats of an entry of the list
are_equal : (loom : LoomValue) (k first count : ℕ) (list : List Version) (v : Version) → slice_get list v.version ≡ Some v → first ≤ v.version
    → AreOf loom k first list (replicate count (repeat_from loom k v.version v.cards))
are_equal loom k first count list v here low =
    let r : Repeat = repeat_from loom k v.version v.cards in
    record {
      of_shift = All-replicate (λ (r : Repeat). r.shift ≡ k) count r refl;
      versions_rise = equal_rise (map (λ (r : Repeat). r.version) (replicate count r)) v.version
          (All-map (λ n. n ≡ v.version) (λ (r : Repeat). r.version) (replicate count r) (All-replicate (λ (r : Repeat). r.version ≡ v.version) count r refl));
      no_older = All-replicate (λ (r : Repeat). first ≤ r.version) count r low;
      shown = All-replicate (IsShown loom list) count r (record { cards = v.cards; entry = here; repeat = refl });
    }

-- repeats behind repeats, with a version between
are_more : (loom : LoomValue) (k first between : ℕ) (list : List Version) (xs ys : List Repeat) → AreOf loom k first list xs → AreOf loom k first list ys
    → All (λ (r : Repeat). r.version ≤ between) xs → All (λ (r : Repeat). between ≤ r.version) ys → AreOf loom k first list (xs ++ ys)
are_more loom k first between list xs ys a b low high = record {
  of_shift = All-append (λ (r : Repeat). r.shift ≡ k) xs ys a.of_shift b.of_shift;
  versions_rise = subst (λ (l : List ℕ). IsNonDecreasing l) (sym (map-append (λ (r : Repeat). r.version) xs ys))
      (rises (map (λ (r : Repeat). r.version) xs) (map (λ (r : Repeat). r.version) ys) between a.versions_rise b.versions_rise
      (All-map (λ n. n ≤ between) (λ (r : Repeat). r.version) xs low) (All-map (λ n. between ≤ n) (λ (r : Repeat). r.version) ys high));
  no_older = All-append (λ (r : Repeat). first ≤ r.version) xs ys a.no_older b.no_older;
  shown = All-append (IsShown loom list) xs ys a.shown b.shown;
}

-- a loom with another end, other repeats and another room
abbrev IsLike : LoomValue → LoomValue → Type 0
IsLike x y = y ≡ record x { end = y.end; repeats = y.repeats; spare = y.spare }

like_by : (x y z : LoomValue) → y ≡ z → IsLike x z → IsLike x y
like_by x y z p h = subst (λ (l : LoomValue). IsLike x l) (sym p) h

like_then : (x y z : LoomValue) → IsLike x y → IsLike y z → IsLike x z
like_then x y z p q = q ∙ ap (λ (l : LoomValue). record l { end = z.end; repeats = z.repeats; spare = z.spare }) p

-- what it weaves of a version is the same
weaves_alike : (x y : LoomValue) → IsLike x y → (k version : ℕ) (cards : CardsValue) → repeat_from y k version cards ≡ repeat_from x k version cards
weaves_alike x y p k version cards = ap (λ (l : LoomValue). repeat_from l k version cards) p

are_alike : (x y : LoomValue) (k first : ℕ) (list : List Version) (new : List Repeat) → IsLike x y → AreOf y k first list new → AreOf x k first list new
are_alike x y k first list new p a = record {
  of_shift = a.of_shift;
  versions_rise = a.versions_rise;
  no_older = a.no_older;
  shown = All_mono (IsShown y list) (IsShown x list) new
      (λ r s. record { cards = s.cards; entry = s.entry; repeat = s.repeat ∙ weaves_alike x y p r.shift r.version s.cards }) a.shown;
}

-- what a loom has of the shift: repeats of a list, no more than stated, with room for the others
record HasPart (k many first : ℕ) (list : List Version) (before after : LoomValue) : Type 0 where
  new : List Repeat
  are : after.repeats ≡ before.repeats ++ new
  like : IsLike before after
  spare : after.spare + length new ≡ before.spare
  few : length new ≤ many
  woven : AreOf before k first list new

-- what it has once it did its part, of the list that it read last; where it was not told it has nothing
record HasTurned (k many : ℕ) (told : List Version) (part : Part) (before after : LoomValue) : Type 0 where
  has : HasPart k many (length told - 1) (list_of after) before after
  knows : part.told ≡ true → Knows told after
  full : part.told ≡ true → length has.new ≡ many → RoseBy many (readings_of before) (readings_of after)
  missed : missed_of before ≤ missed_of after
  fewer : (part.told ≡ true → length has.new < many) → is_some before.end ≡ true → Rose (missed_of before) (missed_of after)
  reads : part.told ≡ false → is_some after.end ≡ is_some before.end
  none : part.told ≡ false → has.new ≡ []

turned : (k many : ℕ) (told : List Version) (part : Part) (before ready after : LoomValue) (b : Bool) → part.told ≡ b → IsReadied told part before ready
    → MatchBool b (DidTurns k many ready after) (after ≡ ready) → HasTurned k many told part before after
turned k many told part before ready after true is r d =
    let like : IsLike before ready = like_by before ready (record before { end = ready.end }) r.same refl in
    let w = d.wove in
    let same : ready.repeats ≡ before.repeats = ap (λ (l : LoomValue). l.repeats) r.same in
    let room : ready.spare ≡ before.spare = ap (λ (l : LoomValue). l.spare) r.same in
    let long : length after.repeats ≡ length ready.repeats + length w.new = ap length w.are ∙ length-append ready.repeats w.new in
    record {
      has = record {
        new = w.new;
        are = w.are ∙ ap (λ l. l ++ w.new) same;
        like = like_then before ready after like w.same;
        spare = omega (arith, w.spare, room);
        few = omega (arith, long, d.few);
        woven = are_alike before ready k (length told - 1) (list_of after) w.new like (w.woven told (r.knows is));
      };
      knows = λ t. w.knows told (r.knows is);
      full = λ t n. omega (arith, n, w.readings, r.readings);
      missed = omega (arith, r.missed, w.missed);
      fewer = λ n s. omega (arith, d.missed (omega (arith, long, n is)), r.missed);
      reads = λ t. absurd (cc (is, t));
      none = λ t. absurd (cc (is, t));
    }
turned k many told part before ready after false is r d =
    let like : IsLike before ready = like_by before ready (record before { end = ready.end }) r.same refl in
    subst (λ (l : LoomValue). HasTurned k many told part before l) (sym d) (record {
      has = record {
        new = [];
        are = ap (λ (l : LoomValue). l.repeats) r.same ∙ sym (append-nil before.repeats);
        like = like;
        spare = omega (arith, ap (λ (l : LoomValue). l.spare) r.same);
        few = omega arith;
        woven = are_none before k (length told - 1) (list_of ready);
      };
      knows = λ t. r.knows t;
      full = λ t n. absurd (cc (is, t));
      missed = r.missed;
      fewer = λ n s. r.untold is s;
      reads = λ t. r.reads;
      none = λ t. refl;
    })

-- what it has once what it read was compared with the published list
record HasKept (k many first : ℕ) (list : List Version) (before after : LoomValue) : Type 0 where
  has : HasPart k many first list before after
  read : is_some before.end ≡ true → (length has.new ≡ many → RoseBy (many + 1) (readings_of before) (readings_of after) ⊎ Rose (missed_of before) (missed_of after))
      × (length has.new < many → Rose (missed_of before) (missed_of after))

missed_one : (many n : ℕ) (before after : LoomValue) → Rose (missed_of before) (missed_of after)
    → (n ≡ many → RoseBy (many + 1) (readings_of before) (readings_of after) ⊎ Rose (missed_of before) (missed_of after)) × (n < many → Rose (missed_of before) (missed_of after))
missed_one many n before after h = (λ e. inr h, λ e. h)

-- none of the shift
kept_none : (k many first : ℕ) (list : List Version) (before after : LoomValue) → after.repeats ≡ before.repeats → IsLike before after → after.spare ≡ before.spare
    → (is_some before.end ≡ true → Rose (missed_of before) (missed_of after)) → HasKept k many first list before after
kept_none k many first list before after same like room missed = record {
  has = record {
    new = [];
    are = same ∙ sym (append-nil before.repeats);
    like = like;
    spare = omega (arith, room);
    few = omega arith;
    woven = are_none before k first list;
  };
  read = λ s. missed_one many 0 before after (missed s);
}

kept_met : (k many known : ℕ) (told shown all : List Version) (part : Part) (before did after : LoomValue) (b : Bool) → part.told ≡ b → HasTurned k many told part before did
    → HasMet known shown did after → IsPrefix told all → IsPrefix shown all → known ≤ length told → HasKept k many (length told - 1) shown before after
kept_met k many known told shown all part before did after true is t m p q low =
    let h = t.has in
    let sees : IsPrefix told (list_of after) = m.knows told (t.knows is) in
    let long : length told ≤ length shown = omega (arith, m.long, ap length sees.1, length-append told sees.0) in
    let same : list_of after ≡ shown = same_list told (list_of after) shown known sees (prefix_of_longer told shown all p q long) low m.alike in
    let later : IsPrefix (list_of did) shown = subst (λ (l : List Version). IsPrefix (list_of did) l) same m.later in
    let like : IsLike did after = like_by did after (record did { end = after.end }) m.same refl in
    record {
      has = record {
        new = h.new;
        are = ap (λ (l : LoomValue). l.repeats) m.same ∙ h.are;
        like = like_then before did after h.like like;
        spare = omega (arith, h.spare, ap (λ (l : LoomValue). l.spare) m.same);
        few = h.few;
        woven = are_later before k (length told - 1) (list_of did) shown h.new later h.woven;
      };
      read = λ s. (
        λ n. inl (omega (arith, t.full is n, m.readings)),
        λ n. omega (arith, t.fewer (λ u. n) s, m.missed),
      );
    }
kept_met k many known told shown all part before did after false is t m p q low =
    let h = t.has in
    kept_none k many (length told - 1) shown before after
    (ap (λ (l : LoomValue). l.repeats) m.same ∙ h.are ∙ ap (λ l. before.repeats ++ l) (t.none is) ∙ append-nil before.repeats)
    (like_then before did after h.like (like_by did after (record did { end = after.end }) m.same refl))
    (omega (arith, h.spare, ap length (t.none is), ap (λ (l : LoomValue). l.spare) m.same))
    (λ s. omega (arith, t.fewer (λ u. absurd (cc (is, u))) s, m.missed))

kept_cut : (k many : ℕ) (told shown : List Version) (part : Part) (before did after : LoomValue) → HasTurned k many told part before did
    → part.start ≡ length before.repeats → WasCut part.start did after → HasKept k many (length told - 1) shown before after
kept_cut k many told shown part before did after t start w =
    let h = t.has in
    let all : take part.start did.repeats ≡ before.repeats =
    ap (λ n. take n did.repeats) start ∙ ap (take (length before.repeats)) h.are ∙ take-append_seam before.repeats h.new in
    kept_none k many (length told - 1) shown before after
    (ap (λ (l : LoomValue). l.repeats) w.same ∙ all)
    (like_then before did after h.like (like_by did after (record did { end = after.end; repeats = take part.start did.repeats; spare = did.spare + (length did.repeats - part.start) }) w.same refl))
    (omega (arith, h.spare, ap (λ (l : LoomValue). l.spare) w.same, start, ap length h.are, length-append before.repeats h.new))
    (λ s. omega (arith, t.missed, w.missed))

kept_deaf : (k many : ℕ) (told shown : List Version) (part : Part) (before did after : LoomValue) (b : Bool) → part.told ≡ b → HasTurned k many told part before did
    → IsDeaf did after → HasKept k many (length told - 1) shown before after
kept_deaf k many told shown part before did after true is t d =
    let e = t.knows is in absurd (cc (d.reads, ap (λ (o : Option EndValue). is_some o) e.is))
kept_deaf k many told shown part before did after false is t d =
    let h = t.has in
    kept_none k many (length told - 1) shown before after
    (ap (λ (l : LoomValue). l.repeats) d.same ∙ h.are ∙ ap (λ l. before.repeats ++ l) (t.none is) ∙ append-nil before.repeats)
    (like_then before did after h.like (like_by did after did d.same refl))
    (omega (arith, h.spare, ap length (t.none is), ap (λ (l : LoomValue). l.spare) d.same))
    (λ s. absurd (cc (d.reads, t.reads is, s)))

kept_part : (k many known : ℕ) (told shown all : List Version) (part : Part) (before did after : LoomValue) → HasTurned k many told part before did
    → part.start ≡ length before.repeats → IsPrefix told all → IsPrefix shown all → known ≤ length told → Keeps known shown part.start did after → HasKept k many (length told - 1) shown before after
kept_part k many known told shown all part before did after t start p q low (inl m) = kept_met k many known told shown all part before did after part.told refl t m p q low
kept_part k many known told shown all part before did after t start p q low (inr (inl w)) = kept_cut k many told shown part before did after t start w
kept_part k many known told shown all part before did after t start p q low (inr (inr d)) = kept_deaf k many told shown part before did after part.told refl t d

-- what it lacked was added
filled : (k many first : ℕ) (shown all : List Version) (v : Version) (start : ℕ) (before kept after : LoomValue) → HasKept k many first shown before kept
    → start ≡ length before.repeats → IsPrefix shown all → slice_get all v.version ≡ Some v → length all ≡ v.version + 1 → first ≤ v.version
    → Fills k v.version (start + many - length kept.repeats) v.cards kept after → DidShift k many first all before after
filled k many first shown all v start before kept after h is p here last low f =
    let x = h.has in
    let count : ℕ = start + many - length kept.repeats in
    let long : length kept.repeats ≡ length before.repeats + length x.new = ap length x.are ∙ length-append before.repeats x.new in
    let left : length x.new + count ≡ many = omega (arith, long, is, x.few) in
    let r : Repeat = repeat_from before k v.version v.cards in
    let like : IsLike kept after = like_by kept after (record kept { repeats = kept.repeats ++ replicate count (repeat_from kept k v.version v.cards); spare = after.spare }) f.same refl in
    let seen : AreOf before k first all x.new = are_later before k first shown all x.new p x.woven in
    record {
      new = x.new ++ replicate count r;
      are = ap (λ (l : LoomValue). l.repeats) f.same ∙ ap (λ w. kept.repeats ++ replicate count w) (weaves_alike before kept x.like k v.version v.cards)
          ∙ ap (λ l. l ++ replicate count r) x.are ∙ append_assoc before.repeats x.new (replicate count r);
      count = length-append x.new (replicate count r) ∙ ap (λ n. length x.new + n) (length-replicate count r) ∙ left;
      same = like_then before kept after x.like like;
      spare = omega (arith, f.spare, x.spare, left);
      woven = are_more before k first v.version all x.new (replicate count r) seen (are_equal before k first count all v here low)
          (All_mono (λ (r : Repeat). r.version < length all) (λ (r : Repeat). r.version ≤ v.version) x.new (λ r s. omega (arith, last)) (below before k first all x.new seen))
          (All-replicate (λ (r : Repeat). v.version ≤ r.version) count r (omega arith));
      read = λ s. by (cases_lt (length x.new) many) s;
    } where
      same_end : after.end ≡ kept.end
      same_end = ap (λ (l : LoomValue). l.end) f.same

      by : (length h.has.new < many) ⊎ (many ≤ length h.has.new) → is_some before.end ≡ true
          → RoseBy (many + 1) (readings_of before) (readings_of after) ⊎ Rose (missed_of before) (missed_of after)
      by c s = subst (λ (e : Option EndValue). RoseBy (many + 1) (readings_of before) (option_map_or (λ (end : EndValue). end.readings) e 0)
          ⊎ Rose (missed_of before) (option_map_or (λ (end : EndValue). end.missed) e 0)) (sym same_end) (one c s) where
            one : (length h.has.new < many) ⊎ (many ≤ length h.has.new) → is_some before.end ≡ true
                → RoseBy (many + 1) (readings_of before) (readings_of kept) ⊎ Rose (missed_of before) (missed_of kept)
            one (inl less) s = inr ((h.read s).1 less)
            one (inr more) s = (h.read s).0 (omega (arith, more, h.has.few))

-- a loom's shift
pub did_shift : (k many known : ℕ) (told shown all : List Version) (v : Version) (part : Part) (before ready did after : LoomValue)
    → IsReadied told part before ready → DidPart k many part ready did → DidFinish k many known v.version v.cards shown part did after
    → IsPrefix told all → known ≤ length told → IsPrefix shown all → slice_get all v.version ≡ Some v → length all ≡ v.version + 1 → length told - 1 ≤ v.version
    → DidShift k many (length told - 1) all before after
did_shift k many known told shown all v part before ready did after r d f p low q here last first =
    filled k many (length told - 1) shown all v part.start before f.kept after
    (kept_part k many known told shown all part before did f.kept (turned k many told part before ready did part.told refl r d.does) r.start p q low f.keeps)
    r.start q here last first f.fills

-- a loom can be ended once it did its part
pub can_finish : (k many : ℕ) (told : List Version) (part : Part) (before ready did : LoomValue) (cards : CardsValue) → IsReadied told part before ready → DidPart k many part ready did
    → many ≤ before.spare → cards.design ≡ design_by before.machine.casting before.picks → CanFinish many cards part did
can_finish k many told part before ready did cards r d room design =
    let h = (turned k many told part before ready did part.told refl r d.does).has in
    let long : length did.repeats ≡ length before.repeats + length h.new = ap length h.are ∙ length-append before.repeats h.new in
    record {
      start = omega (arith, r.start, long);
      few = omega (arith, r.start, long, h.few);
      room = omega (arith, r.start, long, h.spare, room);
      design = design ∙ ap (λ (m : MachineValue). design_by m.casting before.picks) (sym (ap (λ (l : LoomValue). l.machine) h.like))
          ∙ ap (λ n. design_by did.machine.casting n) (sym (ap (λ (l : LoomValue). l.picks) h.like));
    }
