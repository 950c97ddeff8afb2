use Rattle.std.proofs.Common.{◌≡◌, All, ℕ, [], ◌∷◌, ◌++◌, length, map, take, ap, sym, ◌∙◌, subst, arith}
use Rattle.std.proofs.lemmas.List.{length-append}
use Rattle.std.proofs.lemmas.Result.{err_from_is_err_and}
use Rattle.std.proofs.lemmas.List.Elements.{All-push}
use Rattle.toml.specs.View.{view}
use Rattle.session_rules.specs.Faults.{TellsFirst}
use Rattle.session_rules.specs.Paths.{indexed, path_of}
use Rattle.session_rules.specs.Values.{each_value}
use Rattle.session_rules.proofs.lemmas.Items.{faults_go_on, faults_stop, values_go_on}
use Rattle.session_rules.proofs.lists.read_items.Goals as goal

pub returns-in_err-value-clause-reads : goal.returns-in_err-value-clause-reads
unfolding path_of
returns-in_err-value-clause-reads g c =
    let place = c.len-place.ensures ∙ c.loop-item.invariant.count in
    let faults = g.F.Form.faults c.args.form.now in
    let item = view c.item-item.result in
    let told =
    subst (λ (n : ℕ). TellsFirst (faults (map view (take n c.args.items.now)) (indexed (path_of c.args.path.now) n) item) c.in_err-value.field-0.0) place c.in_err-value.ensures.reads
    in
    let p = err_from_is_err_and c.from_residual.result c.from_residual.ensures.1 in
    rw (p.1, p.2)
    (faults_stop faults (path_of c.args.path.now) c.args.items.now c.loop-item.item-index c.item-item.result c.loop-item-test.true c.item-item.is c.loop-item.invariant.none
    c.in_err-value.field-0.0 told)

pub loop-item-preserved : goal.loop-item-preserved
unfolding path_of
loop-item-preserved g c =
    let place = c.len-place.ensures ∙ c.loop-item.invariant.count in
    let faults = g.F.Form.faults c.args.form.now in
    let gives = g.F.Form.gives c.args.form.now in
    let item = view c.item-item.result in
    record {
      count = omega (arith, ap length c.in_ok-push.ensures.ok, length-append c.loop-item.values (c.in_ok-value.value ∷ []), c.loop-item.invariant.count);
      none =
          faults_go_on faults (path_of c.args.path.now) c.args.items.now c.loop-item.item-index c.item-item.result c.loop-item-test.true c.item-item.is c.loop-item.invariant.none
          (subst (λ (n : ℕ). faults (map view (take n c.args.items.now)) (indexed (path_of c.args.path.now) n) item ≡ []) place c.in_ok-value.ensures.reads.0);
      within =
          subst (λ vs. All (g.F.Form.fits c.args.form.now) vs) (sym c.in_ok-push.ensures.ok)
          (All-push (g.F.Form.fits c.args.form.now) c.loop-item.values c.in_ok-value.value c.loop-item.invariant.within c.in_ok-value.ensures.within);
      so_far =
          c.in_ok-push.ensures.ok ∙ ap (λ l. l ++ c.in_ok-value.value ∷ []) c.loop-item.invariant.so_far
          ∙ ap (λ v. each_value gives [] (map view (take c.loop-item.item-index c.args.items.now)) ++ v ∷ [])
          (c.in_ok-value.ensures.reads.1 ∙ ap (λ n. gives (map view (take n c.args.items.now)) item) place)
          ∙ sym (values_go_on gives c.args.items.now c.loop-item.item-index c.item-item.result c.loop-item-test.true c.item-item.is);
    }
