-- When a list of sections has no fault.
use Rattle.std.proofs.Common.{◌≡◌, ℕ, ◌+◌, ◌-◌, ◌<◌, ◌≤◌, true, List, [], ◌∷◌, ◌++◌, length, reverse, get_or, take, Contains, None, slice_index, sym, ap, subst, refl, ◌∙◌, ⊎_elim, arith}
use Rattle.std.proofs.lemmas.Bool.{cases_lt, and_from, le-leb, lt-ltb}
use Rattle.std.proofs.lemmas.List.{append-nil, take_all, length-reverse, get_or-reverse, get_or_append_left, get_or_default, length-append}
use Rattle.std.proofs.lemmas.List.Folds.{length-flat_map-take}
use Rattle.std.proofs.lemmas.List.FromFn.{length-range_with_len, get_or-range_with_len}
use Rattle.std.proofs.lemmas.List.Elements.{All-cons, All-nil}
use Rattle.mill_base.specs.declared.limits.TheConstants.{MAX_COLUMNS, MAX_ENDS}
use Rattle.mill_base.proofs.lemmas.FirstAnswers.{none_each, none_all}
use Rattle.harness_ties.specs.declared.section.Section.{Section}
use Rattle.harness_ties.specs.declared.section.SectionKind.{SectionKind}
use Rattle.harness_ties.specs.declared.section.SectionKind.TheVariants.{Straight, Reverse, Pointed}
use Rattle.harness_ties.specs.Sections.{columns_between, round_of, rounds, once, section_columns, section_ends, is_there}
use Rattle.harness_ties.specs.Ties.{IsTie, joined, tie_of, ends_of_column}
use Rattle.harness_ties.specs.Faults.{section_fault, section_faults, tie_fault, MakeTie}
use Rattle.harness_ties.proofs.Rounds.{joined_more, length_straight, length_reverse, length_pointed}
use Rattle.harness_ties.proofs.Firsts.{count_fault, no_fault}
use Rattle.harness_ties.proofs.Ends.{end_stands, stands_in_tie}
use Rattle.harness_ties.proofs.Builds.{all_there, each_tied, sound, told_none, is_tie}

abbrev first : Section
first = record { kind = Straight; from = 0; to = 0; times = 0 }

-- ---- a list of sections that makes a tie

length-joined-take : (sections : List Section) (k : ℕ) → k < length sections → length (joined (take (k + 1) sections)) ≤ length (joined sections)
unfolding joined
length-joined-take sections k h =
    let more = ap length (joined_more sections k first h) ∙ length-append (joined (take k sections)) (section_ends (get_or sections k first)) in
    let most = length-flat_map-take section_ends sections k first h in
    omega arith

no_section_fault : (sections : List Section) (columns : ℕ) → MakeTie sections columns → section_faults sections columns (length sections) ≡ []
unfolding section_faults
no_section_fault sections columns make = none_all (section_fault sections columns) (length sections)
    (λ k h. no_fault sections columns k first h (make.there k first h) (let few = make.few in let most = length-joined-take sections k h in omega arith))

-- a column that stands in a tie has an end
some_of_contains : (xs : List ℕ) (x : ℕ) → Contains xs x → 0 < length xs
some_of_contains xs x there = omega (arith, there.1)

has_end : (tie : List ℕ) (column : ℕ) → Contains tie column → 0 < length (ends_of_column tie column)
has_end tie column there =
    some_of_contains (ends_of_column tie column) there.0
    (subst (λ c. Contains (ends_of_column tie c) there.0) (sym (get_or_default tie there.0 column 0 there.1) ∙ there.2) (end_stands tie (length tie) there.0 there.1))

pub none_of_tie : (sections : List Section) (columns : ℕ) → MakeTie sections columns → tie_fault sections columns ≡ None
none_of_tie sections columns make =
    told_none sections columns (no_section_fault sections columns make) (λ c h. has_end (tie_of sections columns) c (make.tied c h))

few_joined : (sections : List Section) (columns : ℕ) → section_faults sections columns (length sections) ≡ [] → length (joined sections) ≤ MAX_ENDS
unfolding section_faults joined
few_joined [] columns none = omega arith
few_joined (s ∷ rest) columns none =
    let sections = s ∷ rest in
    let last = length sections - 1 in
    let here : last < length sections = omega arith in
    let whole : joined (take (last + 1) sections) ≡ joined sections = ap joined (take_all (last + 1) sections (omega arith)) in
    ⊎_elim
    (λ (many : MAX_ENDS < length (joined sections)).
    let fault = count_fault sections columns last first here (all_there sections columns none last first here) (subst (λ (xs : List ℕ). MAX_ENDS < length xs) (sym whole) many) in
    let no = none_each (section_fault sections columns) (length sections) last none here in
    absurd (cc))
    (λ (few : length (joined sections) ≤ MAX_ENDS). few)
    (cases_lt MAX_ENDS (length (joined sections)))

pub tie_of_none : (sections : List Section) (columns : ℕ) → tie_fault sections columns ≡ None → MakeTie sections columns
tie_of_none sections columns none =
    let parts = sound sections columns none in
    record {
      there = all_there sections columns parts.0;
      few = few_joined sections columns parts.0;
      tied = λ c h. stands_in_tie (tie_of sections columns) c (each_tied (tie_of sections columns) columns c parts.1 h);
    }

pub built_tie : (sections : List Section) (columns : ℕ) → 1 ≤ columns → columns ≤ MAX_COLUMNS → tie_fault sections columns ≡ None → IsTie (record { columns = columns; ends = tie_of sections columns })
built_tie sections columns some limit none =
    let parts = sound sections columns none in
    is_tie sections columns some limit parts.0 (few_joined sections columns parts.0) (λ c h. each_tied (tie_of sections columns) columns c parts.1 h)

-- ---- the straight tie

pub length-straight : (columns : ℕ) → length (tie_of [] columns) ≡ columns
unfolding tie_of
length-straight columns = length-range_with_len 0 (columns - 0) ∙ (let e : columns - 0 ≡ columns = omega arith in e)

pub end_of_straight : (columns end : ℕ) → end < columns → slice_index (tie_of [] columns) end ≡ end
unfolding tie_of
end_of_straight columns end h = get_or-range_with_len 0 (columns - 0) end 0 (omega arith) ∙ (let e : 0 + end ≡ end = omega arith in e)

-- item i of a list stands in it
item_stands : (xs : List ℕ) (x i : ℕ) → i < length xs → slice_index xs i ≡ x → Contains xs x
item_stands xs x i h is = (i, h, get_or_default xs i x 0 h ∙ is)

pub straight_none : (columns : ℕ) → tie_fault [] columns ≡ None
unfolding joined
straight_none columns = none_of_tie [] columns (record {
  there = All-nil (λ s. is_there columns s ≡ true);
  few = omega arith;
  tied = λ c h. item_stands (tie_of [] columns) c c (omega (arith, length-straight columns)) (end_of_straight columns c h);
})

-- ---- one round over all columns

pub once_is : (kind : SectionKind) (columns : ℕ) → tie_of (once kind columns ∷ []) columns ≡ round_of kind 0 (columns - 1)
unfolding tie_of joined section_ends section_columns rounds
once_is kind columns = append-nil (round_of kind 0 (columns - 1))

pub length-once_straight : (columns : ℕ) → 1 ≤ columns → length (round_of Straight 0 (columns - 1)) ≡ columns
length-once_straight columns some = length_straight 0 (columns - 1) (omega arith) ∙ omega arith

pub length-once_reverse : (columns : ℕ) → 1 ≤ columns → length (round_of Reverse 0 (columns - 1)) ≡ columns
length-once_reverse columns some = length_reverse 0 (columns - 1) (omega arith) ∙ omega arith

pub length-once_pointed : (columns : ℕ) → 1 ≤ columns → length (round_of Pointed 0 (columns - 1)) ≡ columns + (columns - 2)
length-once_pointed columns some = length_pointed 0 (columns - 1) (omega arith) ∙ omega arith

-- column c of the columns from 0 to and with another one
column_stands : (b c : ℕ) → c ≤ b → (c < length (columns_between 0 (b + 1))) × (slice_index (columns_between 0 (b + 1)) c ≡ c)
column_stands b c h =
    let long = length-range_with_len 0 (b + 1 - 0) in
    let at = get_or-range_with_len 0 (b + 1 - 0) c 0 (omega arith) in
    (omega arith, omega arith)

round_has : (kind : SectionKind) (b c : ℕ) → c ≤ b → Contains (round_of kind 0 b) c
round_has Straight b c h = let there = column_stands b c h in item_stands (columns_between 0 (b + 1)) c c there.0 there.1
round_has Reverse b c h =
    let there = column_stands b c h in
    let long = length-range_with_len 0 (b + 1 - 0) in
    let turned = length-reverse (columns_between 0 (b + 1)) in
    let place : length (columns_between 0 (b + 1)) - 1 - (b - c) ≡ c = omega arith in
    item_stands (reverse (columns_between 0 (b + 1))) c (b - c) (omega arith)
    (get_or-reverse (columns_between 0 (b + 1)) (b - c) 0 (omega arith) ∙ ap (slice_index (columns_between 0 (b + 1))) place ∙ there.1)
round_has Pointed b c h =
    let there = column_stands b c h in
    let up = columns_between 0 (b + 1) in
    let down = reverse (columns_between (0 + 1) b) in
    item_stands (up ++ down) c c (let long = length-append up down in let low = there.0 in omega arith) (get_or_append_left up down 0 c there.0 ∙ there.1)

few_in_round : (kind : SectionKind) (columns : ℕ) → 1 ≤ columns → columns ≤ MAX_COLUMNS → length (round_of kind 0 (columns - 1)) ≤ MAX_ENDS
few_in_round Straight columns some limit = omega (arith, length-once_straight columns some)
few_in_round Reverse columns some limit = omega (arith, length-once_reverse columns some)
few_in_round Pointed columns some limit = omega (arith, length-once_pointed columns some)

once_there : (kind : SectionKind) (columns : ℕ) → 1 ≤ columns → is_there columns (once kind columns) ≡ true
once_there kind columns some =
    and_from _ true (and_from _ _ (le-leb 0 (columns - 1) (omega arith)) (lt-ltb (columns - 1) columns (omega arith))) refl

pub round_none : (kind : SectionKind) (columns : ℕ) → 1 ≤ columns → columns ≤ MAX_COLUMNS → tie_fault (once kind columns ∷ []) columns ≡ None
unfolding tie_of
round_none kind columns some limit =
    let s = once kind columns in
    none_of_tie (s ∷ []) columns (record {
      there = All-cons (λ s. is_there columns s ≡ true) s [] (once_there kind columns some) (All-nil (λ s. is_there columns s ≡ true));
      few = subst (λ (xs : List ℕ). length xs ≤ MAX_ENDS) (sym (once_is kind columns)) (few_in_round kind columns some limit);
      tied = λ c h. subst (λ (xs : List ℕ). Contains xs c) (sym (once_is kind columns)) (round_has kind (columns - 1) c (omega arith));
    })
