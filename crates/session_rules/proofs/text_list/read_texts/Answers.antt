use Rattle.std.proofs.Common.{◌≡◌, ℕ, [], ◌∷◌, ◌++◌, length, ap, sym, ◌∙◌, subst, arith}
use Rattle.std.proofs.lemmas.List.{length-append}
use Rattle.std.proofs.lemmas.Result.{err_from_is_err_and}
use Rattle.toml.specs.View.{view}
use Rattle.session_rules.specs.Checks.{text}
use Rattle.session_rules.specs.Faults.{TellsFirst}
use Rattle.session_rules.specs.Paths.{indexed, path_of}
use Rattle.session_rules.specs.Values.{text_in}
use Rattle.session_rules.proofs.lemmas.Items.{faults_go_on, faults_stop, values_go_on}
use Rattle.session_rules.proofs.text_list.read_texts.Goals as goal

pub returns-in_err-push_text-clause-reads : goal.returns-in_err-push_text-clause-reads
unfolding path_of
returns-in_err-push_text-clause-reads c =
    let place = c.len-place.ensures ∙ c.loop-item.invariant.count in
    let item = view c.item-item.result in
    let told = subst (λ (n : ℕ). TellsFirst (text (indexed (path_of c.args.path.now) n) item) c.in_err-push_text.field-0.0) place c.in_err-push_text.ensures.keeps in
    let p = err_from_is_err_and c.from_residual-in_err-push_text.result c.from_residual-in_err-push_text.ensures.1 in
    rw (p.1, p.2)
    (faults_stop (λ earlier. text) (path_of c.args.path.now) c.args.items.now c.loop-item.item-index c.item-item.result c.loop-item-test.true c.item-item.is c.loop-item.invariant.none
    c.in_err-push_text.field-0.0 told)

pub loop-item-preserved : goal.loop-item-preserved
unfolding path_of
loop-item-preserved c =
    let place = c.len-place.ensures ∙ c.loop-item.invariant.count in
    let item = view c.item-item.result in
    record {
      count = omega (arith, ap length c.in_ok-push_text.ensures.added, length-append c.loop-item.texts (text_in item ∷ []), c.loop-item.invariant.count);
      none =
          faults_go_on (λ earlier. text) (path_of c.args.path.now) c.args.items.now c.loop-item.item-index c.item-item.result c.loop-item-test.true c.item-item.is c.loop-item.invariant.none
          (subst (λ (n : ℕ). text (indexed (path_of c.args.path.now) n) item ≡ []) place c.in_ok-push_text.ensures.keeps);
      so_far =
          c.in_ok-push_text.ensures.added ∙ ap (λ l. l ++ text_in item ∷ []) c.loop-item.invariant.so_far
          ∙ sym (values_go_on (λ earlier. text_in) c.args.items.now c.loop-item.item-index c.item-item.result c.loop-item-test.true c.item-item.is);
    }
