use Rattle.std.proofs.Common.{◌≡◌, ◌<◌, ◌≤◌, length, slice_index, All, ap, sym, subst, ◌∙◌}
use Rattle.std.proofs.lemmas.Result.{err_from_is_err_and}
use Rattle.mill_base.specs.declared.limits.TheConstants.{MAX_ENDS}
use Rattle.harness_ties.specs.Ties.{IsTie, tie_of, ends_of_column}
use Rattle.harness_ties.specs.inner.Groups.{Parts}
use Rattle.harness_ties.proofs.Builds.{all_there, tie_below, tie_short, told_first, told_none, told_by_counts, each_by_counts, is_tie}
use Rattle.harness_ties.proofs.tie.Tie.build.Goals as goal

pub join_sections-requires-clause-there : goal.join_sections-requires-clause-there
join_sections-requires-clause-there c = all_there c.args.sections.now c.args.columns c.in_ok-check_sections.ensures.ok

pub returns-in_err-check_sections-clause-fault : goal.returns-in_err-check_sections-clause-fault
returns-in_err-check_sections-clause-fault c =
    let p = err_from_is_err_and c.from_residual.result c.from_residual.ensures.1 in
    rw (p.1, p.2) (λ ne. told_first c.args.sections.now c.args.columns _ c.in_err-check_sections.ensures.fault)

pub count_ends-requires-clause-there : goal.count_ends-requires-clause-there
count_ends-requires-clause-there c =
    subst (λ xs. All (λ k. k < c.args.columns) xs) (sym (c.deref.ensures.value ∙ c.in_ok-columns_of_ends.ensures))
    (tie_below c.args.sections.now c.args.columns (all_there c.args.sections.now c.args.columns c.in_ok-check_sections.ensures.ok))

pub count_ends-requires-clause-few : goal.count_ends-requires-clause-few
count_ends-requires-clause-few c =
    subst (λ xs. length xs ≤ MAX_ENDS) (sym (c.deref.ensures.value ∙ c.in_ok-columns_of_ends.ensures)) (tie_short c.args.sections.now c.args.columns c.requires.limit c.in_ok-check_sections.ensures.few)

pub returns-in-Some-clause-fault : goal.returns-in-Some-clause-fault
returns-in-Some-clause-fault c ne =
    told_by_counts c.args.sections.now c.args.columns c.in-Some.column c.deref-2.result.now c.in_ok-check_sections.ensures.ok
    (ap length c.deref-2.ensures.value ∙ c.in_ok-counts.ensures.len)
    (λ k low. ap (λ xs. slice_index xs k) c.deref-2.ensures.value ∙ c.in_ok-counts.ensures.counts k low
    ∙ ap (λ xs. length (ends_of_column xs k)) (c.deref.ensures.value ∙ c.in_ok-columns_of_ends.ensures))
    c.in-Some.ensures.0 c.in-Some.ensures.1 c.in-Some.ensures.2

pub group_ends-requires-clause-there : goal.group_ends-requires-clause-there
group_ends-requires-clause-there c =
    let long : length c.deref-4.result.now ≡ c.args.columns = ap length c.deref-4.ensures.value ∙ c.in_ok-counts.ensures.len in
    subst (λ xs. All (λ k. k < length c.deref-4.result.now) xs) (sym (c.deref-3.ensures.value ∙ c.in_ok-columns_of_ends.ensures))
    (subst (λ n. All (λ k. k < n) (tie_of c.args.sections.now c.args.columns)) (sym long)
    (tie_below c.args.sections.now c.args.columns (all_there c.args.sections.now c.args.columns c.in_ok-check_sections.ensures.ok)))

pub group_ends-requires-clause-few : goal.group_ends-requires-clause-few
group_ends-requires-clause-few c =
    subst (λ xs. length xs ≤ MAX_ENDS) (sym (c.deref-3.ensures.value ∙ c.in_ok-columns_of_ends.ensures)) (tie_short c.args.sections.now c.args.columns c.requires.limit c.in_ok-check_sections.ensures.few)

pub cut-requires-clause-there : goal.cut-requires-clause-there
cut-requires-clause-there c =
    subst (λ xs. All (λ k. k < c.args.columns) xs) (sym (c.deref-5.ensures.value ∙ c.in_ok-columns_of_ends.ensures))
    (tie_below c.args.sections.now c.args.columns (all_there c.args.sections.now c.args.columns c.in_ok-check_sections.ensures.ok))

pub cut-requires-clause-few : goal.cut-requires-clause-few
cut-requires-clause-few c =
    subst (λ xs. length xs ≤ MAX_ENDS) (sym (c.deref-5.ensures.value ∙ c.in_ok-columns_of_ends.ensures)) (tie_short c.args.sections.now c.args.columns c.requires.limit c.in_ok-check_sections.ensures.few)

pub invariant_of-result : goal.invariant_of-result
invariant_of-result c =
    let tie = tie_of c.args.sections.now c.args.columns in
    let is = c.in_ok-columns_of_ends.ensures in
    let long : length c.deref-4.result.now ≡ c.args.columns = ap length c.deref-4.ensures.value ∙ c.in_ok-counts.ensures.len in (
      subst (λ xs. IsTie (record { columns = c.args.columns; ends = xs })) (sym is)
          (is_tie c.args.sections.now c.args.columns c.requires.some c.requires.limit c.in_ok-check_sections.ensures.ok c.in_ok-check_sections.ensures.few
          (each_by_counts tie c.deref-2.result.now c.args.columns (ap length c.deref-2.ensures.value ∙ c.in_ok-counts.ensures.len)
          (λ k low. ap (λ xs. slice_index xs k) c.deref-2.ensures.value ∙ c.in_ok-counts.ensures.counts k low
          ∙ ap (λ xs. length (ends_of_column xs k)) (c.deref.ensures.value ∙ is)) c.in_default.ensures)),
      subst (λ xs. Parts xs c.args.columns c.in_ok-groups.groups.starts.items c.in_ok-groups.groups.ends.items) c.deref-3.ensures.value
          (subst (λ n. Parts c.deref-3.result.now n c.in_ok-groups.groups.starts.items c.in_ok-groups.groups.ends.items) long c.in_ok-groups.ensures),
      c.in_ok-stretches.ensures.tie ∙ c.deref-5.ensures.value,
      c.in_ok-stretches.ensures.there,
    )

pub returns-clause-sound : goal.returns-clause-sound
returns-clause-sound c =
    told_none c.args.sections.now c.args.columns c.in_ok-check_sections.ensures.ok
    (each_by_counts (tie_of c.args.sections.now c.args.columns) c.deref-2.result.now c.args.columns (ap length c.deref-2.ensures.value ∙ c.in_ok-counts.ensures.len)
    (λ k low. ap (λ xs. slice_index xs k) c.deref-2.ensures.value ∙ c.in_ok-counts.ensures.counts k low
    ∙ ap (λ xs. length (ends_of_column xs k)) (c.deref.ensures.value ∙ c.in_ok-columns_of_ends.ensures)) c.in_default.ensures)
