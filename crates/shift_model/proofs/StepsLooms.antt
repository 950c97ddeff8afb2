-- A loom, and what events keep of it.
use Rattle.std.proofs.Common.{◌≡◌, ◌⊎◌, inl, inr, ℕ, zero, suc, ◌+◌, ◌<◌, ◌≤◌, Bool, true, false, cond, List, [], ◌∷◌, ◌++◌, Option, Some, None, length, get_or, map, take, refl, sym, ap, subst, ◌∙◌, length-append, arith}
use Rattle.std.specs.Prelude.{All, IfSome, count_by, slice_get}
use Rattle.std.specs.List.Sorted.{IsNonDecreasing}
use Rattle.std.proofs.lemmas.Bool.{cases_lt, cases_eq}
use Rattle.std.proofs.lemmas.Bool.Decides.{nat_tests}
use Rattle.std.proofs.lemmas.List.{get_or_append_left, get_or-append-add, get_or_default, get_or_past, map-append, take-append-le, take_all}
use Rattle.std.proofs.lemmas.List.Elements.{All-push, All-map}
use Rattle.std.proofs.lemmas.List.Sums.{sum_by-append, sum_by-take-le}
use Rattle.std.proofs.lemmas.Option.{get_or_from_slice_get, slice_get-get_or}
use Rattle.mill_base.proofs.lemmas.Lines.{line_by_more}
use Rattle.mill_base.specs.Lines.{line_by}
use Rattle.mill_base.specs.declared.face.Face.{Face}
use Rattle.point_paper.specs.Papers.{PaperCells}
use Rattle.draft_model.specs.declared.design.Design.{Design}
use Rattle.version_journal.specs.Entries.{is_accepted}
use Rattle.version_journal.specs.declared.entry.Reply.{Reply}
use Rattle.shift_model.specs.Steps.{LoomState, Weaving, and_unfinished, begun_on, is_whole, may_begin, row_of, with_pick, with_repeat, with_row}
use Rattle.shift_model.proofs.lemmas.Lists.{All_mono, rises}

-- how many replies of the acts before a shift accept a commit
abbrev pub accepted_by : List Reply → List ℕ → ℕ → ℕ → ℕ
accepted_by replies cuts acts shift = count_by is_accepted (take (get_or (0 ∷ cuts) shift acts) replies)

-- a repeat that a loom of a face began in one of the shifts up to this one
pub record IsBegun (design : Design) (face : Face) (versions : List PaperCells) (accepted_to : ℕ → ℕ) (shift floor : ℕ) (weaving : Weaving) : Type 0 where
  pub in_shift : weaving.shift ≤ shift
  pub under : weaving.version ≤ floor
  pub no_older : accepted_to weaving.shift ≤ weaving.version
  pub no_newer : weaving.version ≤ accepted_to (weaving.shift + 1)
  pub paper : PaperCells
  pub version : slice_get versions weaving.version ≡ Some paper
  pub rows : weaving.rows ≡ line_by (length weaving.rows) (row_of design face paper)

-- a loom of a face, in a shift
pub record IsLoom (design : Design) (face : Face) (versions : List PaperCells) (accepted_to : ℕ → ℕ) (shift published : ℕ) (loom : LoomState) : Type 0 where
  pub floor_low : accepted_to shift ≤ loom.floor
  pub floor_high : loom.floor ≤ published
  pub versions_rise : IsNonDecreasing (map (λ (w : Weaving). w.version) (begun_on loom))
  pub shifts_rise : IsNonDecreasing (map (λ (w : Weaving). w.shift) (begun_on loom))
  pub ended : All (IsBegun design face versions accepted_to shift loom.floor) loom.ended
  pub unfinished : IfSome loom.unfinished (IsBegun design face versions accepted_to shift loom.floor)
  pub whole : All (λ (w : Weaving). length w.rows ≡ design.size.picks) loom.ended

-- lists of numbers
pub nothing : {X : Type 0} (P : X → Type 0) → All P []
nothing P k d h = absurd (omega arith)

one_rises : (x : ℕ) → IsNonDecreasing (x ∷ [])
one_rises x i j d up h = let e : i ≡ j = omega arith in subst (λ k. get_or (x ∷ []) i d ≤ get_or (x ∷ []) k d) e (omega arith)

pub push_rises : (xs : List ℕ) (m y : ℕ) → IsNonDecreasing xs → All (λ x. x ≤ m) xs → m ≤ y → IsNonDecreasing (xs ++ y ∷ [])
push_rises xs m y rise low h =
    rises xs (y ∷ []) m rise (one_rises y) low (All-push (λ (x : ℕ). m ≤ x) [] y (nothing (λ (x : ℕ). m ≤ x)) h)

-- a last item that is the default changes no reading
pub read_default : (xs : List ℕ) (s d : ℕ) → get_or (xs ++ d ∷ []) s d ≡ get_or xs s d
read_default xs s d = by (cases_lt s (length xs)) (cases_eq s (length xs)) where
  by : (s < length xs) ⊎ (length xs ≤ s) → (s ≡ length xs) ⊎ (s ≡ length xs → ⊥) → get_or (xs ++ d ∷ []) s d ≡ get_or xs s d
  by (inl low) e = get_or_append_left xs (d ∷ []) d s low
  by (inr high) (inl is) =
      ap (λ k. get_or (xs ++ d ∷ []) k d) (let e : s ≡ length xs + 0 = omega arith in e) ∙ get_or-append-add xs (d ∷ []) 0 d ∙ sym (get_or_past xs s d high)
  by (inr high) (inr other) = get_or_past (xs ++ d ∷ []) s d (omega (arith, other, length-append xs (d ∷ []))) ∙ sym (get_or_past xs s d high)

-- how many commits are accepted before a shift, once there are further acts or a cut
accepted_mono : (replies : List Reply) (k : ℕ) → count_by is_accepted (take k replies) ≤ count_by is_accepted replies
accepted_mono replies k = sum_by-take-le (λ r. cond (is_accepted r) 1 0) replies k

accepted_more : (replies more : List Reply) → count_by is_accepted (replies ++ more) ≡ count_by is_accepted replies + count_by is_accepted more
accepted_more replies more = sum_by-append (λ r. cond (is_accepted r) 1 0) replies more

-- the cut that a shift began with is among the acts that were done
start_low : (cuts : List ℕ) (n s : ℕ) → All (λ c. c ≤ n) cuts → get_or (0 ∷ cuts) s n ≤ n
start_low cuts n zero low = omega arith
start_low cuts n (suc t) low = by (cases_lt t (length cuts)) where
  by : (t < length cuts) ⊎ (length cuts ≤ t) → get_or cuts t n ≤ n
  by (inl h) = low t n h
  by (inr h) = omega (arith, get_or_past cuts t n h)

pub stays : (replies more : List Reply) (cuts : List ℕ) (n m s : ℕ) → n ≡ length replies → All (λ c. c ≤ n) cuts → s ≤ length cuts
    → accepted_by (replies ++ more) cuts m s ≡ accepted_by replies cuts n s
stays replies more cuts n m s is low h =
    ap (λ k. count_by is_accepted (take k (replies ++ more))) (get_or_default (0 ∷ cuts) s m n (omega arith))
    ∙ ap (count_by is_accepted) (take-append-le (get_or (0 ∷ cuts) s n) replies more (omega (arith, start_low cuts n s low)))

pub all_of : (replies : List Reply) (cuts : List ℕ) (n s : ℕ) → n ≡ length replies → length cuts < s → accepted_by replies cuts n s ≡ count_by is_accepted replies
all_of replies cuts n s is h =
    ap (λ k. count_by is_accepted (take k replies)) (get_or_past (0 ∷ cuts) s n (omega arith)) ∙ ap (count_by is_accepted) (take_all n replies (omega arith))

pub grows : (replies more : List Reply) (cuts : List ℕ) (n m s : ℕ) → n ≡ length replies → m ≡ length (replies ++ more) → All (λ c. c ≤ n) cuts
    → accepted_by replies cuts n s ≤ accepted_by (replies ++ more) cuts m s
grows replies more cuts n m s is there low = by (cases_lt (length cuts) s) where
  by : (length cuts < s) ⊎ (s ≤ length cuts) → accepted_by replies cuts n s ≤ accepted_by (replies ++ more) cuts m s
  by (inl h) = omega (arith, all_of replies cuts n s is h, all_of (replies ++ more) cuts m s there h, accepted_more replies more)
  by (inr h) = omega (arith, stays replies more cuts n m s is low h)

-- a repeat, and a loom, when acts, publications or a cut come
begun_later : (design : Design) (face : Face) (papers later : List PaperCells) (was now : ℕ → ℕ) (shift next floor raised : ℕ) (w : Weaving)
    → ((k : ℕ) (p : PaperCells) → slice_get papers k ≡ Some p → slice_get later k ≡ Some p) → ((s : ℕ) → s ≤ shift → now s ≡ was s) → ((s : ℕ) → was s ≤ now s)
    → shift ≤ next → floor ≤ raised → IsBegun design face papers was shift floor w → IsBegun design face later now next raised w
begun_later design face papers later was now shift next floor raised w there same more up rise b = record {
  in_shift = omega (arith, b.in_shift);
  under = omega (arith, b.under);
  no_older = omega (arith, b.no_older, same w.shift b.in_shift);
  no_newer = omega (arith, b.no_newer, more (w.shift + 1));
  paper = b.paper;
  version = there w.version b.paper b.version;
  rows = b.rows;
}

some_mono : {X : Type 0} (P Q : X → Type 0) (x : Option X) → ((y : X) → P y → Q y) → IfSome x P → IfSome x Q
some_mono P Q None f h = tt
some_mono P Q (Some y) f h = f y h

pub loom_later : (design : Design) (face : Face) (papers later : List PaperCells) (was now : ℕ → ℕ) (shift next published newest raised : ℕ) (loom : LoomState)
    → ((k : ℕ) (p : PaperCells) → slice_get papers k ≡ Some p → slice_get later k ≡ Some p) → ((s : ℕ) → s ≤ shift → now s ≡ was s) → ((s : ℕ) → was s ≤ now s)
    → shift ≤ next → loom.floor ≤ raised → now next ≤ raised → raised ≤ newest
    → IsLoom design face papers was shift published loom → IsLoom design face later now next newest (record loom { floor = raised })
loom_later design face papers later was now shift next published newest raised loom there same more up rise low high l =
    let goes : (w : Weaving) → IsBegun design face papers was shift loom.floor w → IsBegun design face later now next raised w
    = λ w b. begun_later design face papers later was now shift next loom.floor raised w there same more up rise b in
    record {
      floor_low = low;
      floor_high = high;
      versions_rise = l.versions_rise;
      shifts_rise = l.shifts_rise;
      ended = All_mono (IsBegun design face papers was shift loom.floor) (IsBegun design face later now next raised) loom.ended goes l.ended;
      unfinished = some_mono (IsBegun design face papers was shift loom.floor) (IsBegun design face later now next raised) loom.unfinished goes l.unfinished;
      whole = l.whole;
    }

-- a repeat is begun
begin_is : (newest version : ℕ) (loom : LoomState) → may_begin newest version loom ≡ true → (loom.unfinished ≡ None) × (loom.floor ≤ version) × (version ≤ newest)
begin_is newest version loom may = by loom.unfinished may where
  by : (unfinished : Option Weaving) → may_begin newest version (record loom { unfinished = unfinished }) ≡ true → (unfinished ≡ None) × (loom.floor ≤ version) × (version ≤ newest)
  by None h = (refl, grind (arith, nat_tests), grind (arith, nat_tests))
  by (Some w) h = absurd (let e : ⊥ = cc in e)

no_rows : {A : Type 0} (f : ℕ → A) → [] ≡ line_by 0 f
unfolding line_by
no_rows f = refl

pub begins : (design : Design) (face : Face) (papers : List PaperCells) (accepted_to : ℕ → ℕ) (shift published version : ℕ) (loom : LoomState)
    → published < length papers → published ≤ accepted_to (shift + 1) → may_begin published version loom ≡ true
    → IsLoom design face papers accepted_to shift published loom → IsLoom design face papers accepted_to shift published (with_repeat shift version loom)
begins design face papers accepted_to shift published version loom there now may l = record {
  floor_low = omega (arith, l.floor_low, is.1);
  floor_high = is.2;
  versions_rise = subst (λ (x : List ℕ). IsNonDecreasing x) (sym (map-append (λ (v : Weaving). v.version) loom.ended (w ∷ [])))
      (push_rises (map (λ (v : Weaving). v.version) loom.ended) loom.floor version (closed (λ (v : Weaving). v.version) l.versions_rise)
      (All-map (λ n. n ≤ loom.floor) (λ (v : Weaving). v.version) loom.ended (λ k d h. (l.ended k d h).under)) is.1);
  shifts_rise = subst (λ (x : List ℕ). IsNonDecreasing x) (sym (map-append (λ (v : Weaving). v.shift) loom.ended (w ∷ [])))
      (push_rises (map (λ (v : Weaving). v.shift) loom.ended) shift shift (closed (λ (v : Weaving). v.shift) l.shifts_rise)
      (All-map (λ n. n ≤ shift) (λ (v : Weaving). v.shift) loom.ended (λ k d h. (l.ended k d h).in_shift)) (omega arith));
  ended = All_mono (IsBegun design face papers accepted_to shift loom.floor) (IsBegun design face papers accepted_to shift version) loom.ended goes l.ended;
  unfinished = record {
    in_shift = omega arith;
    under = omega arith;
    no_older = omega (arith, l.floor_low, is.1);
    no_newer = omega (arith, is.2);
    paper = paper;
    version = slice_get-get_or papers version nowhere (omega (arith, is.2));
    rows = no_rows (row_of design face paper);
  };
  whole = l.whole;
} where
  is : (loom.unfinished ≡ None) × (loom.floor ≤ version) × (version ≤ published)
  is = begin_is published version loom may

  w : Weaving
  w = record { shift = shift; version = version; rows = [] }

  nowhere : PaperCells
  nowhere = record { columns = 0; picks = 0; colours = [] }

  paper : PaperCells
  paper = get_or papers version nowhere

  closed : (f : Weaving → ℕ) → IsNonDecreasing (map f (begun_on loom)) → IsNonDecreasing (map f loom.ended)
  closed f rise = subst (λ (u : Option Weaving). IsNonDecreasing (map f (and_unfinished loom.ended u))) is.0 rise

  goes : (v : Weaving) → IsBegun design face papers accepted_to shift loom.floor v → IsBegun design face papers accepted_to shift version v
  goes v h = begun_later design face papers papers accepted_to accepted_to shift shift loom.floor version v (λ k p e. e) (λ s e. refl) (λ s. omega arith) (omega arith) is.1 h

-- a row more
row_more : {A : Type 0} (rows : List A) (f : ℕ → A) (row : A) → rows ≡ line_by (length rows) f → row ≡ f (length rows) → rows ++ row ∷ [] ≡ line_by (length (rows ++ row ∷ [])) f
row_more rows f row are is =
    ap (λ l. l ++ row ∷ []) are ∙ ap (λ x. line_by (length rows) f ++ x ∷ []) is ∙ sym (line_by_more (length rows) f)
    ∙ ap (λ n. line_by n f) (let e : length rows + 1 ≡ length (rows ++ row ∷ []) = omega (arith, length-append rows (row ∷ [])) in e)

whole_is : (design : Design) (w : Weaving) → is_whole design w ≡ true → length w.rows ≡ design.size.picks
whole_is design w h = grind (arith, nat_tests)

same_last : (f : Weaving → ℕ) (ws : List Weaving) (v w : Weaving) → f v ≡ f w → map f (ws ++ v ∷ []) ≡ map f (ws ++ w ∷ [])
same_last f ws v w is = map-append f ws (v ∷ []) ∙ ap (λ x. map f ws ++ x ∷ []) is ∙ sym (map-append f ws (w ∷ []))

pub picks : (design : Design) (face : Face) (papers : List PaperCells) (accepted_to : ℕ → ℕ) (shift published floor : ℕ) (opening : PaperCells) (ended : List Weaving) (unfinished : Option Weaving)
    → IsLoom design face papers accepted_to shift published (record { floor = floor; ended = ended; unfinished = unfinished })
    → IsLoom design face papers accepted_to shift published
    (with_pick design face (λ version. get_or papers version opening) (record { floor = floor; ended = ended; unfinished = unfinished }) unfinished)
picks design face papers accepted_to shift published floor opening ended None l = l
picks design face papers accepted_to shift published floor opening ended (Some w) l = by (is_whole design v) refl where
  row : List Bool
  row = row_of design face (get_or papers w.version opening) (length w.rows)

  v : Weaving
  v = with_row design face (λ version. get_or papers version opening) w

  begun : IsBegun design face papers accepted_to shift floor v
  begun = record {
    in_shift = l.unfinished.in_shift;
    under = l.unfinished.under;
    no_older = l.unfinished.no_older;
    no_newer = l.unfinished.no_newer;
    paper = l.unfinished.paper;
    version = l.unfinished.version;
    rows = row_more w.rows (row_of design face l.unfinished.paper) row l.unfinished.rows
        (ap (λ p. row_of design face p (length w.rows)) (get_or_from_slice_get papers w.version l.unfinished.paper opening l.unfinished.version));
  }

  by : (full : Bool) → is_whole design v ≡ full → IsLoom design face papers accepted_to shift published
      (cond full (record { floor = floor; ended = ended ++ v ∷ []; unfinished = None }) (record { floor = floor; ended = ended; unfinished = Some v }))
  by true is = record {
    floor_low = l.floor_low;
    floor_high = l.floor_high;
    versions_rise = subst (λ (x : List ℕ). IsNonDecreasing x) (same_last (λ (u : Weaving). u.version) ended w v refl) l.versions_rise;
    shifts_rise = subst (λ (x : List ℕ). IsNonDecreasing x) (same_last (λ (u : Weaving). u.shift) ended w v refl) l.shifts_rise;
    ended = All-push (IsBegun design face papers accepted_to shift floor) ended v l.ended begun;
    unfinished = tt;
    whole = All-push (λ (u : Weaving). length u.rows ≡ design.size.picks) ended v l.whole (whole_is design v is);
  }
  by false is = record {
    floor_low = l.floor_low;
    floor_high = l.floor_high;
    versions_rise = subst (λ (x : List ℕ). IsNonDecreasing x) (same_last (λ (u : Weaving). u.version) ended w v refl) l.versions_rise;
    shifts_rise = subst (λ (x : List ℕ). IsNonDecreasing x) (same_last (λ (u : Weaving). u.shift) ended w v refl) l.shifts_rise;
    ended = l.ended;
    unfinished = begun;
    whole = l.whole;
  }
