-- What the law says of the worlds that events lead to.
use Rattle.std.proofs.Common.{◌≡◌, ◌⊎◌, inl, inr, ℕ, zero, suc, ◌+◌, ◌-◌, ◌<◌, ◌≤◌, ◌==◌, ◌&&◌, nat_lt, Bool, true, false, cond, List, [], ◌∷◌, Option, Some, None, length, get_or, map, take, refl, sym, ap, subst, ◌∙◌, arith}
use Rattle.std.specs.Prelude.{All, IfSome, count_by, slice_get, if◌then◌else◌}
use Rattle.std.specs.List.Sorted.{IsNonDecreasing}
use Rattle.std.proofs.lemmas.Bool.{cases_lt}
use Rattle.std.proofs.lemmas.Bool.Decides.{nat_tests}
use Rattle.std.proofs.lemmas.List.{get_or-map, get_or_default, get_or_past, length-map}
use Rattle.std.proofs.lemmas.List.Elements.{All-push, All-map}
use Rattle.std.proofs.lemmas.List.Sums.{sum_by-cons, sum_by-take-le}
use Rattle.std.proofs.lemmas.Option.{get_or_from_slice_get, slice_get_within}
use Rattle.mill_base.specs.Lines.{line_by}
use Rattle.mill_base.specs.declared.face.Face.{Face}
use Rattle.mill_base.specs.declared.face.Face.TheVariants.{Up}
use Rattle.casting_out.specs.Castings.{IsCasting}
use Rattle.point_paper.specs.Papers.{PaperCells}
use Rattle.strokes.specs.Places.{HasColour, IsThere}
use Rattle.strokes.specs.declared.act.Act.{Act}
use Rattle.strokes.specs.declared.act.Act.TheVariants.{Commit}
use Rattle.strokes.specs.declared.motifs.NamedMotif.{NamedMotif}
use Rattle.draft_model.specs.Cards.{woven}
use Rattle.draft_model.specs.Designs.{Fits, IsPaperOf}
use Rattle.draft_model.specs.Drawdowns.{drawdown}
use Rattle.draft_model.specs.declared.design.Design.{Design}
use Rattle.version_journal.specs.Entries.{is_accepted}
use Rattle.version_journal.specs.Journals.{ActWithMotif, HasColours, IsActOf, replies, versions, with_motif}
use Rattle.version_journal.specs.declared.entry.Entry.{Entry}
use Rattle.version_journal.specs.declared.run_log.Repeat.{Repeat}
use Rattle.session_file.specs.Plans.{Fits as FitsSession, FitsPlan}
use Rattle.session_file.specs.declared.session.Session.{Session}
use Rattle.session_file.specs.declared.session.ShiftPlan.{ShiftPlan}
use Rattle.loom_threads.specs.Woven.{IsWoven, digest_of, lifted_rows}
use Rattle.shift_model.specs.Plans.{acts_of_painter, plan_of}
use Rattle.shift_model.specs.Logs.{IsCurrent, IsJournal, IsLoomLog, Legal, accepted_before, named_act}
use Rattle.shift_model.specs.Steps.{HasRun, IsDrawdown, IsInShift, IsOfItsShift, LoomState, Weaving, World, accepted_at, begun_on, idle, log_of_world, logged, loom_at, row_of, and_unfinished}
use Rattle.shift_model.proofs.lemmas.Lists.{All_mono, count_none, map_twice}
use Rattle.shift_model.proofs.Steps.{IsReached}
use Rattle.shift_model.proofs.StepsLooms.{IsBegun, IsLoom}

-- the laws, as they are handed in
abbrev pub VersionsFit : Type 0
VersionsFit = (design : Design) (opening : PaperCells) (acts : List ActWithMotif) → IsPaperOf design opening → All (IsActOf design) acts
    → All (IsPaperOf design) (versions design opening acts)

abbrev pub LiftedAreDrawdowns : Type 0
LiftedAreDrawdowns = (design : Design) (face : Face) (paper : PaperCells) → IsCasting design.casting → Fits design
    → map (woven face) (lifted_rows design face paper) ≡ (drawdown design paper).rows

abbrev pub ActsFit : Type 0
ActsFit = (design : Design) (motifs : List NamedMotif) (act : Act) → HasColour (length design.book) act
    → All (λ (named : NamedMotif). HasColours (length design.book) named.motif) motifs → IsActOf design (with_motif motifs act)

-- the repeats that a loom began, ended or not
begun_all : (P : Weaving → Type 0) (ended : List Weaving) (unfinished : Option Weaving) → All P ended → IfSome unfinished P → All P (and_unfinished ended unfinished)
begun_all P ended None e u = e
begun_all P ended (Some w) e u = All-push P ended w e u

-- no repeat is newer than the version that its shift, or what there was of it, ended with
pub current : (design : Design) (opening : PaperCells) (faces : List Face) (w : World) (loom : ℕ) → IsReached design opening faces w → loom < length faces
    → IsNonDecreasing (map (λ (v : Weaving). v.version) (begun_on (loom_at w loom))) × All (IsOfItsShift w) (begun_on (loom_at w loom))
current design opening faces w loom r h =
    let l = r.looms loom h in
    let begun : All (IsBegun design (get_or faces loom Up) w.history.versions (accepted_at w) (length w.cuts) (loom_at w loom).floor) (begun_on (loom_at w loom))
    = begun_all (IsBegun design (get_or faces loom Up) w.history.versions (accepted_at w) (length w.cuts) (loom_at w loom).floor) (loom_at w loom).ended (loom_at w loom).unfinished l.ended l.unfinished in (
      l.versions_rise,
      λ k d below.
          let b = begun k d below in
          let v : Weaving = get_or (begun_on (loom_at w loom)) k d in
          record {
            no_older = b.no_older;
            no_newer = b.no_newer;
            made = omega (arith, b.no_newer, sum_by-take-le (λ x. cond (is_accepted x) 1 0) w.history.replies (get_or (0 ∷ w.cuts) (v.shift + 1) (length w.acts)));
          },
    )

-- a repeat that was ended has the rows that are lifted from its version
picks_of : VersionsFit → (design : Design) (opening : PaperCells) (faces : List Face) (w : World) (k : ℕ) (paper : PaperCells) → IsReached design opening faces w
    → IsPaperOf design opening → All (IsActOf design) w.acts → slice_get w.history.versions k ≡ Some paper → paper.picks ≡ design.size.picks
picks_of fit design opening faces w k paper r fits acts is =
    let there : slice_get (versions design opening w.acts) k ≡ Some paper = ap (λ h. slice_get h.versions k) (sym r.history) ∙ is in
    ap (λ (p : PaperCells). p.picks) (sym (get_or_from_slice_get (versions design opening w.acts) k paper paper there))
    ∙ (fit design opening w.acts fits acts k paper (slice_get_within (versions design opening w.acts) k paper there)).picks

rows_are : (design : Design) (face : Face) (rows : List (List Bool)) (paper : PaperCells) → rows ≡ line_by (length rows) (row_of design face paper)
    → length rows ≡ design.size.picks → paper.picks ≡ design.size.picks → rows ≡ lifted_rows design face paper
rows_are design face rows paper are whole picks = are ∙ ap (λ n. line_by n (row_of design face paper)) (whole ∙ sym picks)

pub drawn : VersionsFit → LiftedAreDrawdowns → (design : Design) (opening : PaperCells) (faces : List Face) (w : World) (loom : ℕ) → IsReached design opening faces w
    → Fits design → IsCasting design.casting → IsPaperOf design opening → All (IsActOf design) w.acts → loom < length faces
    → All (IsDrawdown design (get_or faces loom Up) w.history.versions) (loom_at w loom).ended
drawn fit law design opening faces w loom r fits casting of acts h k d below =
    let l = r.looms loom h in
    let b = l.ended k d below in
    record {
      paper = b.paper;
      version = b.version;
      rows = ap (map (woven (get_or faces loom Up)))
          (rows_are design (get_or faces loom Up) (get_or (loom_at w loom).ended k d).rows b.paper b.rows (l.whole k d below) (picks_of fit design opening faces w (get_or (loom_at w loom).ended k d).version b.paper r of acts b.version))
          ∙ law design (get_or faces loom Up) b.paper casting fits;
    }

-- which acts were done before a shift
within : (cuts : List ℕ) (place shift : ℕ) → place < get_or cuts shift 0 → shift < length cuts
within cuts place shift h = by (cases_lt shift (length cuts)) where
  by : (shift < length cuts) ⊎ (length cuts ≤ shift) → shift < length cuts
  by (inl low) = low
  by (inr high) = absurd (omega (arith, get_or_past cuts shift 0 high))

-- a shift begins no earlier than a shift before it ended
before_start : (cuts : List ℕ) (place s t : ℕ) → IsNonDecreasing cuts → s < t → t ≤ length cuts → IsInShift cuts place s → place < get_or (0 ∷ cuts) t 0
before_start cuts place s zero rise less h i = absurd (omega arith)
before_start cuts place s (suc r) rise less h i = omega (arith, i.1, rise s r 0 (omega arith) (omega arith))

after_start : (cuts : List ℕ) (place s t : ℕ) → IsNonDecreasing cuts → t ≤ s → IsInShift cuts place s → get_or (0 ∷ cuts) t 0 ≤ place
after_start cuts place s zero rise less i = omega arith
after_start cuts place zero (suc r) rise less i = absurd (omega arith)
after_start cuts place (suc s) (suc r) rise less i = omega (arith, i.0, rise r s 0 (omega arith) (omega (arith, within cuts place (suc s) i.1)))

in_order : (cuts : List ℕ) (i j s t : ℕ) → IsNonDecreasing cuts → i ≤ j → IsInShift cuts i s → IsInShift cuts j t → s ≤ t
in_order cuts i j s t rise up a b = by (cases_lt t s) where
  by : (t < s) ⊎ (s ≤ t) → s ≤ t
  by (inl less) = absurd (omega (arith, a.0, before_start cuts j t s rise less (omega (arith, within cuts i s a.1)) b))
  by (inr more) = more

-- the commits accepted before a shift are those of the acts before it
counted : (s m : ℕ) (es : List Entry)
    → ((i : ℕ) → i < m → i < length es → get_or (map (λ (e : Entry). e.shift) es) i 0 < s) → ((i : ℕ) → m ≤ i → i < length es → s ≤ get_or (map (λ (e : Entry). e.shift) es) i 0)
    → accepted_before s es ≡ count_by is_accepted (take m (map (λ (e : Entry). e.reply) es))
counted s zero es low high = count_none (λ (e : Entry). nat_lt e.shift s && is_accepted e.reply) es (λ k d below.
    late (get_or es k d).shift (is_accepted (get_or es k d).reply) (omega (arith, high k (omega arith) below, get_or-map (λ (e : Entry). e.shift) es k d 0 below))) where
      late : (shift : ℕ) (a : Bool) → s ≤ shift → (nat_lt shift s && a) ≡ false
      late shift a h = ap (λ b. b && a) (let e : nat_lt shift s ≡ false = grind (arith, nat_tests) in e)
counted s (suc m) [] low high = refl
counted s (suc m) (e ∷ es) low high =
    let first : (nat_lt e.shift s && is_accepted e.reply) ≡ is_accepted e.reply = ap (λ b. b && is_accepted e.reply) (early e.shift (low 0 (omega arith) (omega arith))) in
    omega (
      arith,
      sum_by-cons (λ (n : Entry). cond (nat_lt n.shift s && is_accepted n.reply) 1 0) e es,
      sum_by-cons (λ x. cond (is_accepted x) 1 0) e.reply (take m (map (λ (n : Entry). n.reply) es)),
      one (nat_lt e.shift s && is_accepted e.reply) (is_accepted e.reply) first,
      counted s m es (λ i a b. low (suc i) (omega arith) (omega arith)) (λ i a b. high (suc i) (omega arith) (omega arith)),
    ) where
      early : (shift : ℕ) → shift < s → nat_lt shift s ≡ true
      early shift h = grind (arith, nat_tests)

      one : (a b : Bool) → a ≡ b → ◌≡◌ {A = ℕ} (cond a 1 0) (cond b 1 0)
      one a b h = ap (λ c. cond c 1 0) h

before_is : (design : Design) (opening : PaperCells) (faces : List Face) (session : Session) (entries : List Entry) (w : World) (s : ℕ) → IsReached design opening faces w
    → HasRun session entries w → s ≤ length w.cuts → accepted_before s entries ≡ accepted_at w s
before_is design opening faces session entries w s r run h =
    counted s (get_or (0 ∷ w.cuts) s 0) entries
    (λ i low below. by i low below (cases_lt (shift i) s))
    (λ i up below. late i up below (cases_lt (shift i) s))
    ∙ ap (λ l. count_by is_accepted (take (get_or (0 ∷ w.cuts) s 0) l)) run.replied
    ∙ ap (λ n. count_by is_accepted (take n w.history.replies)) (get_or_default (0 ∷ w.cuts) s 0 (length w.acts) (omega arith)) where
      shift : ℕ → ℕ
      shift i = get_or (map (λ (e : Entry). e.shift) entries) i 0

      by : (i : ℕ) → i < get_or (0 ∷ w.cuts) s 0 → i < length entries → (shift i < s) ⊎ (s ≤ shift i) → shift i < s
      by i low below (inl less) = less
      by i low below (inr more) = absurd (omega (arith, after_start w.cuts i (shift i) s r.cuts_rise more (run.shifts i below)))

      late : (i : ℕ) → get_or (0 ∷ w.cuts) s 0 ≤ i → i < length entries → (shift i < s) ⊎ (s ≤ shift i) → s ≤ shift i
      late i up below (inl less) = absurd (omega (arith, before_start w.cuts i (shift i) s r.cuts_rise less h (run.shifts i below)))
      late i up below (inr more) = more

-- the acts of a session are of its design
or_default : {X : Type 0} (P : X → Type 0) (xs : List X) (i : ℕ) (d : X) → All P xs → P d → P (get_or xs i d)
or_default P xs i d all other = by (cases_lt i (length xs)) where
  by : (i < length xs) ⊎ (length xs ≤ i) → P (get_or xs i d)
  by (inl h) = all i d h
  by (inr h) = subst P (sym (get_or_past xs i d h)) other

nothing : {X : Type 0} (P : X → Type 0) → All P []
nothing P k d h = absurd (omega arith)

coloured : (session : Session) (shift painter place : ℕ) → FitsSession session
    → HasColour (length session.design.book) (get_or (acts_of_painter (plan_of session shift) painter) place Commit)
coloured session shift painter place fits =
    or_default has (acts_of_painter (plan_of session shift) painter) place Commit
    (or_default (All has) (plan_of session shift).painters painter []
    (or_default (λ (plan : ShiftPlan). All (All has) plan.painters) session.shifts shift (record { repeats = []; painters = [] })
    (All_mono (FitsPlan session) (λ (plan : ShiftPlan). All (All has) plan.painters) session.shifts (λ plan f.
    All_mono (All there) (All has) plan.painters (λ acts a. All_mono there has acts (λ act t. t.colour) a) f.acts) fits.plans)
    (nothing (All has)))
    (nothing has)) tt where
      has : Act → Type 0
      has = HasColour (length session.design.book)

      there : Act → Type 0
      there = IsThere (length session.design.book) session.design.size session.motifs

acts_fit : ActsFit → (session : Session) (entries : List Entry) (w : World) → FitsSession session → HasRun session entries w → All (IsActOf session.design) w.acts
acts_fit fit session entries w fits run =
    subst (λ (l : List ActWithMotif). All (IsActOf session.design) l) run.acts
    (All-map (IsActOf session.design) (named_act session) entries (λ k d h.
    let e : Entry = get_or entries k d in
    fit session.design session.motifs (get_or (acts_of_painter (plan_of session e.shift) e.painter) (e.number - 1) Commit)
    (coloured session e.shift e.painter (e.number - 1) fits) fits.coloured))

-- the journal
journal : (session : Session) (entries : List Entry) (w : World) → IsReached session.design session.opening session.faces w → HasRun session entries w
    → IsJournal session entries (length session.shifts)
journal session entries w r run = record {
  shifts = record {
    order = λ i j d up h.
        let low : j < length entries = omega (arith, h, length-map entries (λ (e : Entry). e.shift)) in
        omega (
          arith,
          in_order w.cuts i j (get_or shifts i 0) (get_or shifts j 0) r.cuts_rise up (run.shifts i (omega arith)) (run.shifts j low),
          get_or_default shifts i d 0 (omega arith),
          get_or_default shifts j d 0 h,
        );
    before = λ i d h.
        let low : i < length entries = omega (arith, h, length-map entries (λ (e : Entry). e.shift)) in
        omega (arith, within w.cuts i (get_or shifts i 0) (run.shifts i low).1, run.cuts, get_or_default shifts i d 0 h);
  };
  merges = run.merges;
  replied = run.replied ∙ ap (λ h. h.replies) r.history ∙ ap (replies session.design session.opening) (sym run.acts);
} where
  shifts : List ℕ
  shifts = map (λ (e : Entry). e.shift) entries

-- what a loom wove
count_map : {X Y : Type 0} (f : X → Y) (p : Y → Bool) (xs : List X) → count_by p (map f xs) ≡ count_by (λ x. p (f x)) xs
count_map f p [] = refl
count_map f p (x ∷ xs) = omega (arith, sum_by-cons (λ y. cond (p y) 1 0) (f x) (map f xs), sum_by-cons (λ z. cond (p (f z)) 1 0) x xs, count_map f p xs)

as_woven : (session : Session) (face : Face) (papers : List PaperCells) (v : Weaving) (paper : PaperCells) → slice_get papers v.version ≡ Some paper
    → v.rows ≡ lifted_rows session.design face paper → IsWoven session.design session.show_rows face papers (logged session v)
as_woven session face papers v paper there rows = record {
  paper = paper;
  version = there;
  digest = ap (λ x. digest_of (record { ends = length session.design.tie.ends; rows = x })) rows;
  rows = ap (λ x. if session.show_rows then Some (record { ends = length session.design.tie.ends; rows = x }) else None) rows;
}

loom_log : VersionsFit → (session : Session) (entries : List Entry) (w : World) (loom : ℕ) → FitsSession session → IsReached session.design session.opening session.faces w
    → All (IsActOf session.design) w.acts → HasRun session entries w → loom < session.looms
    → IsLoomLog session entries (length session.shifts) loom (map (logged session) (loom_at w loom).ended)
loom_log fit session entries w loom fits r acts run h = record {
  shifts = record {
    order = subst (λ (l : List ℕ). IsNonDecreasing l) (sym (map_twice (logged session) (λ (woven : Repeat). woven.shift) ended))
        (closed_rise (λ (v : Weaving). v.shift) l.shifts_rise);
    before = subst (λ (l : List ℕ). All (λ n. n < length session.shifts) l) (sym (map_twice (logged session) (λ (woven : Repeat). woven.shift) ended))
        (All-map (λ n. n < length session.shifts) (λ (v : Weaving). v.shift) ended (run.before loom idle there));
  };
  counts = λ shift low. count_map (logged session) (λ (woven : Repeat). woven.shift == shift) ended ∙ run.counts loom shift h low;
  versions_rise = subst (λ (l : List ℕ). IsNonDecreasing l) (sym (map_twice (logged session) (λ (woven : Repeat). woven.version) ended))
      (closed_rise (λ (v : Weaving). v.version) l.versions_rise);
  current = All-map (IsCurrent entries) (logged session) ended (λ k d below.
      let b = l.ended k d below in
      let v : Weaving = get_or ended k d in
      let low : v.shift < length w.cuts = omega (arith, run.before loom idle there k d below, run.cuts) in
      record {
        no_older = omega (arith, b.no_older, before_is session.design session.opening session.faces session entries w v.shift r run (omega arith));
        no_newer = omega (arith, b.no_newer, before_is session.design session.opening session.faces session entries w (v.shift + 1) r run (omega arith));
      });
  woven = All-map (IsWoven session.design session.show_rows face papers) (logged session) ended (λ k d below.
      let b = l.ended k d below in
      let v : Weaving = get_or ended k d in
      as_woven session face papers v b.paper (ap (λ p. slice_get p v.version) papers_are ∙ b.version)
      (rows_are session.design face v.rows b.paper b.rows (l.whole k d below) (picks_of fit session.design session.opening session.faces w v.version b.paper r fits.opening acts b.version)));
} where
  ended : List Weaving
  ended = (loom_at w loom).ended

  face : Face
  face = get_or session.faces loom Up

  papers : List PaperCells
  papers = versions session.design session.opening (map (named_act session) entries)

  papers_are : papers ≡ w.history.versions
  papers_are = ap (versions session.design session.opening) run.acts ∙ ap (λ h. h.versions) (sym r.history)

  here : loom < length session.faces
  here = omega (arith, fits.faces)

  there : loom < length w.looms
  there = omega (arith, fits.faces, r.many)

  l : IsLoom session.design face w.history.versions (accepted_at w) (length w.cuts) w.published (loom_at w loom)
  l = r.looms loom here

  closed_rise : (f : Weaving → ℕ) → IsNonDecreasing (map f (begun_on (loom_at w loom))) → IsNonDecreasing (map f ended)
  closed_rise f rise = subst (λ (u : Option Weaving). IsNonDecreasing (map f (and_unfinished ended u))) (run.closed loom idle there) rise

pub legal : VersionsFit → ActsFit → (session : Session) (entries : List Entry) (w : World) → FitsSession session → IsReached session.design session.opening session.faces w
    → HasRun session entries w → Legal session (log_of_world session entries w)
legal fit acts_of_design session entries w fits r run = record {
  journal = journal session entries w r run;
  looms = length-map w.looms (λ (loom : LoomState). map (logged session) loom.ended) ∙ r.many ∙ fits.faces;
  repeats = λ loom h. subst (λ (l : List Repeat). IsLoomLog session entries (length session.shifts) loom l)
      (sym (get_or-map (λ (loom : LoomState). map (logged session) loom.ended) w.looms loom idle [] (omega (arith, h, fits.faces, r.many))))
      (loom_log fit session entries w loom fits r (acts_fit acts_of_design session entries w fits run) run h);
}
