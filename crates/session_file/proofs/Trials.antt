-- The trial session fits.
use Rattle.std.proofs.Common.{◌≡◌, ℕ, zero, suc, ◌+◌, ◌*◌, ◌/◌, ◌%◌, ◌==◌, ◌<◌, ◌≤◌, Bool, true, false, List, [], ◌∷◌, length, take, drop, get_or, sum_by, All, if◌then◌else◌, add-one, eqb-true, refl, ap, sym, subst, ◌∙◌, arith}
use Rattle.std.proofs.Math.Nat.{mod-lt}
use Rattle.std.proofs.lemmas.List.{length-take, length-drop, take-append-drop}
use Rattle.std.proofs.lemmas.List.Elements.{All-cons, All-take, All-drop}
use Rattle.std.proofs.lemmas.List.Sums.{sum_by-append}
use Rattle.mill_base.proofs.lemmas.Lines.{length-line_by, get_or-line_by, sum_by-line_by_more}
use Rattle.mill_base.specs.Lines.{line_by}
use Rattle.casting_out.specs.Castings.{casting_of}
use Rattle.harness_ties.specs.Ties.{IsTie}
use Rattle.point_paper.specs.Papers.{PaperCells, paper_by}
use Rattle.strokes.specs.Places.{IsThere}
use Rattle.strokes.specs.declared.act.Act.{Act}
use Rattle.strokes.specs.declared.act.Act.TheVariants.{Commit}
use Rattle.session_file.specs.declared.draft.Colour.{Colour}
use Rattle.session_file.specs.declared.draft.SessionDraft.{SessionDraft}
use Rattle.session_file.specs.declared.session.Session.{Session}
use Rattle.session_file.specs.Plans.{commit}
use Rattle.session_file.specs.Sessions.{session_of}
use Rattle.session_file.specs.Trials.{act_from, act_of, acts_of, cast_out, colours, draw, drawn, drawn_rect, draws_before, draws_of, next, plan, size, trial, trial_draft}
use Rattle.session_file.specs.inner.Drafts.{FitsNumbers, FitsShift, FitsValues}
use Rattle.session_file.specs.inner.Images.{HasColours}

-- ---- the hooks that are cast out

pub cast_there : All (λ (hook : ℕ). hook < 400) cast_out
cast_there = λ k d h.
    let below : k < 16 = omega (arith, h, length-line_by 16 (λ (k : ℕ). 7 + 25 * k)) in
    omega (arith, below, get_or-line_by 16 (λ (k : ℕ). 7 + 25 * k) k d below)

pub cast_rising : (k : ℕ) → k + 1 < length cast_out → get_or cast_out k 0 < get_or cast_out (k + 1) 0
cast_rising k h =
    let below : k + 1 < 16 = omega (arith, h, length-line_by 16 (λ (k : ℕ). 7 + 25 * k)) in
    omega (arith, below, get_or-line_by 16 (λ (k : ℕ). 7 + 25 * k) k 0 (omega (arith, below)), get_or-line_by 16 (λ (k : ℕ). 7 + 25 * k) (k + 1) 0 below)

-- ---- draws one after another

pub drawn_more : (x k j : ℕ) → drawn (drawn x k) j ≡ drawn x (k + j)
unfolding drawn
drawn_more x k zero =
    let e : k + zero ≡ k = omega arith in
    ap (drawn x) (sym e)
drawn_more x k (suc j) =
    let e : k + suc j ≡ suc (k + j) = omega arith in
    ap next (drawn_more x k j) ∙ ap (drawn x) (sym e)

-- ---- acts paint with what is there

draw_below : (x k below : ℕ) → 0 < below → draw x k below < below
unfolding draw
draw_below x k below some = mod-lt _ some

rect_there : (x : ℕ) → IsThere 6 size [] (drawn_rect x)
unfolding drawn_rect
rect_there x = record {
  colour = draw_below x 1 6 (omega arith);
  cells = (
    record { column = draw_below x 2 384 (omega arith); pick = draw_below x 3 512 (omega arith) },
    record { column = omega arith; pick = omega arith },
  );
  motif = tt;
}

either_there : (b : Bool) (x : ℕ) → IsThere 6 size [] (if b then Commit else drawn_rect x)
either_there true x = record { colour = tt; cells = tt; motif = tt }
either_there false x = rect_there x

act_there : (n i : ℕ) → IsThere 6 size [] (act_of n i)
unfolding act_of
act_there n i = either_there (i % 20 == 0) (drawn n (draws_before i))

acts_there : (n : ℕ) → All (IsThere 6 size []) (acts_of n)
acts_there n = λ k d h.
    let cell : ℕ → Act = λ k. act_of n (k + 1) in
    let below : k < 400 = omega (arith, h, length-line_by 400 cell) in
    subst (IsThere 6 size []) (sym (get_or-line_by 400 cell k d below)) (act_there n (k + 1))

-- ---- each twentieth act is a commit

count_either : (b : Bool) (x : ℕ) → commit (if b then Commit else drawn_rect x) ≡ (if b then 1 else 0)
unfolding drawn_rect
count_either true x = refl
count_either false x = refl

count_act : (n i : ℕ) → commit (act_of n i) ≡ (if i % 20 == 0 then 1 else 0)
unfolding act_of
count_act n i = count_either (i % 20 == 0) (drawn n (draws_before i))

tally : (m : ℕ) (b : Bool) → ((m + 1) % 20 == 0) ≡ b → m / 20 + (if b then 1 else 0) ≤ (m + 1) / 20
tally m true is = omega (arith, eqb-true _ _ is)
tally m false is = omega arith

no_commits : (cell : ℕ → Act) → sum_by commit (line_by 0 cell) ≡ 0
unfolding line_by
no_commits cell = refl

few_commits : (n m : ℕ) → sum_by commit (line_by m (λ k. act_of n (k + 1))) ≤ m / 20
few_commits n zero = omega (arith, no_commits (λ k. act_of n (k + 1)))
few_commits n (suc m) =
    let cell : ℕ → Act = λ k. act_of n (k + 1) in
    let one_more : sum_by commit (line_by (suc m) cell) ≡ sum_by commit (line_by m cell) + commit (cell m) =
    subst (λ (j : ℕ). sum_by commit (line_by j cell) ≡ sum_by commit (line_by m cell) + commit (cell m)) (add-one m) (sum_by-line_by_more commit m cell)
    in
    omega (arith, one_more, few_commits n m, count_act n (m + 1), tally m _ refl, add-one m)

-- ---- the values

one : {A : Type 0} (P : A → Type 0) (x : A) → P x → All P (x ∷ [])
one P x p = All-cons P x [] p (λ k d h. absurd (omega (arith, h)))

plan_fits : (acts : List Act) → All (IsThere 6 size []) acts → FitsShift 4 6 size [] (plan acts)
plan_fits acts there = record { repeats = refl; painters = omega arith; acts = one (All (IsThere 6 size [])) acts there }

plans_fit : (n : ℕ) → All (FitsShift 4 6 size []) (plan (take 200 (acts_of n)) ∷ plan (drop 200 (acts_of n)) ∷ [])
plans_fit n =
    let early = plan (take 200 (acts_of n)) in
    let late = plan (drop 200 (acts_of n)) in
    All-cons (FitsShift 4 6 size []) early (late ∷ []) (plan_fits _ (All-take (IsThere 6 size []) 200 (acts_of n) (acts_there n)))
    (one (FitsShift 4 6 size []) late (plan_fits _ (All-drop (IsThere 6 size []) 200 (acts_of n) (acts_there n))))

colours_fit : (k : ℕ) (d : Colour) → k < 6 → length (get_or colours k d).rgb ≡ 3
colours_fit zero d h = refl
colours_fit (suc zero) d h = refl
colours_fit (suc (suc zero)) d h = refl
colours_fit (suc (suc (suc zero))) d h = refl
colours_fit (suc (suc (suc (suc zero)))) d h = refl
colours_fit (suc (suc (suc (suc (suc zero))))) d h = refl
colours_fit (suc (suc (suc (suc (suc (suc k)))))) d h = absurd (omega (arith, h))

values_of : (n : ℕ) → length (casting_of 400 cast_out 384).columns ≡ 384 → IsTie (trial_draft n).tie → FitsValues (trial_draft n)
unfolding trial_draft
values_of n cast tie = record {
  head = record { format = (omega arith, omega arith); looms = (omega arith, omega arith); faces = refl };
  design = record {
    hooks = record { columns = (omega arith, omega arith); picks = (omega arith, omega arith); cast = cast; hooks = (omega arith, omega arith) };
    limits = record {
      weft_face = (omega arith, omega arith);
      weft_back = (omega arith, omega arith);
      warp_face = (omega arith, omega arith);
      warp_back = (omega arith, omega arith);
    };
    tile = (omega arith, omega arith);
  };
  count = (omega arith, omega arith);
  colours = colours_fit;
  tie = refl;
  whole = tie;
  few_motifs = omega arith;
  motifs = λ k d h. absurd (omega (arith, h));
  opening = omega arith;
  shifts = (omega arith, omega arith);
  plans = plans_fit n;
}

-- ---- the numbers

acts_in_all : (n : ℕ) → length (take 200 (acts_of n)) + length (drop 200 (acts_of n)) ≡ 400
acts_in_all n =
    omega (arith, length-take 200 (acts_of n), length-drop 200 (acts_of n), length-line_by 400 (λ (k : ℕ). act_of n (k + 1)))

commits_in_all : (n : ℕ) → sum_by commit (take 200 (acts_of n)) + sum_by commit (drop 200 (acts_of n)) ≤ 20
commits_in_all n = omega (
  arith,
  few_commits n 400,
  sum_by-append commit (take 200 (acts_of n)) (drop 200 (acts_of n)),
  ap (sum_by commit) (take-append-drop 200 (acts_of n)),
)

numbers_of : (n : ℕ) → IsTie (trial_draft n).tie → FitsNumbers (trial_draft n)
unfolding trial_draft
numbers_of n tie = record {
  cloth = omega (arith, tie.ends_limit);
  cells = omega arith;
  acts = omega (arith, acts_in_all n);
  commits = omega (arith, commits_in_all n);
  repeats = omega arith;
  cards = omega (arith, commits_in_all n);
  shown = omega arith;
}

-- ---- a draft that says so, and a paper

module _ (n : ℕ) (draft : SessionDraft) (is : draft ≡ trial_draft n) where
  pub values_fit : length draft.design.casting.columns ≡ 384 → IsTie draft.tie → FitsValues draft
  unfolding trial_draft
  values_fit cast tie =
      subst FitsValues (sym is)
      (values_of n (subst (λ (d : SessionDraft). length d.design.casting.columns ≡ 384) is cast) (subst (λ (d : SessionDraft). IsTie d.tie) is tie))

  pub numbers_fit : IsTie draft.tie → FitsNumbers draft
  numbers_fit tie = subst FitsNumbers (sym is) (numbers_of n (subst (λ (d : SessionDraft). IsTie d.tie) is tie))

  pub paper_fits : (opening : PaperCells) → opening ≡ paper_by 384 512 (λ column pick. 0)
      → (opening.columns ≡ draft.design.size.columns) × (opening.picks ≡ draft.design.size.picks)
  unfolding trial_draft
  paper_fits opening plain = (
    ap (λ (p : PaperCells). p.columns) plain ∙ sym (ap (λ (d : SessionDraft). d.design.size.columns) is),
    ap (λ (p : PaperCells). p.picks) plain ∙ sym (ap (λ (d : SessionDraft). d.design.size.picks) is),
  )

  pub colours_there : (opening : PaperCells) → HasColours size 6 opening → HasColours draft.design.size (length draft.colours) opening
  unfolding trial_draft
  colours_there opening has = subst (λ (d : SessionDraft). HasColours d.design.size (length d.colours) opening) (sym is) has

  pub session_is : (opening : PaperCells) (session : Session) → opening ≡ paper_by 384 512 (λ column pick. 0) → session ≡ session_of draft opening → session ≡ trial n
  unfolding trial
  session_is opening session plain made =
      made ∙ ap (λ (d : SessionDraft). session_of d opening) is ∙ ap (λ (p : PaperCells). session_of (trial_draft n) p) plain

-- ---- one act more

pub one_act_more : (n k x : ℕ) → x ≡ drawn n (draws_before (k + 1)) → act_from x (k + 1) ≡ act_of n (k + 1)
unfolding act_of
one_act_more n k x is = ap (λ (y : ℕ). act_from y (k + 1)) is

pub more_draws : (n k x y : ℕ) → x ≡ drawn n (draws_before (k + 1)) → y ≡ drawn x (draws_of (k + 1)) → y ≡ drawn n (draws_before (k + 1 + 1))
unfolding draws_before
more_draws n k x y is after =
    after ∙ ap (λ (z : ℕ). drawn z (draws_of (k + 1))) is ∙ drawn_more n (draws_before (k + 1)) (draws_of (k + 1))
    ∙ ap (λ (j : ℕ). drawn n (draws_before j)) (sym (add-one (k + 1)))

pub all_acts : (n : ℕ) → length (acts_of n) ≡ 400
all_acts n = length-line_by 400 (λ (k : ℕ). act_of n (k + 1))
