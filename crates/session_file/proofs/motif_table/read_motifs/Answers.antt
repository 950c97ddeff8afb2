use Rattle.std.proofs.Common.{◌≡◌, ℕ, List, [], ◌∷◌, ◌++◌, length, ap, sym, ◌∙◌, subst, arith}
use Rattle.std.proofs.lemmas.List.{length-append}
use Rattle.std.proofs.lemmas.Result.{err_from_is_err_and}
use Rattle.toml.specs.View.{view}
use Rattle.strokes.specs.declared.motifs.NamedMotif.{NamedMotif}
use Rattle.session_rules.specs.Checks.{ItemCheck}
use Rattle.session_rules.specs.Faults.{TellsFirst}
use Rattle.session_rules.specs.Paths.{indexed, path_of}
use Rattle.session_rules.specs.Tables.{table}
use Rattle.session_rules.specs.Values.{members_give}
use Rattle.session_rules.proofs.lemmas.Items.{faults_go_on, faults_stop, values_go_on}
use Rattle.session_file.specs.Rules.{motif_rules}
use Rattle.session_file.specs.Values.{motifs_of, named_motif_of}
use Rattle.session_file.proofs.motif_table.read_motifs.Goals as goal

pub returns-in_err-add_motif-clause-reads : goal.returns-in_err-add_motif-clause-reads
unfolding path_of
returns-in_err-add_motif-clause-reads c =
    let check : ItemCheck = λ earlier. table (motif_rules c.args.colours c.args.size (motifs_of earlier)) in
    let path = path_of c.args.path.now in
    let place = c.len-place.ensures ∙ c.loop-item.invariant.count in
    let item = view c.item-item.result in
    let here =
    subst (λ (n : ℕ). TellsFirst (table (motif_rules c.args.colours c.args.size c.loop-item.motifs) (indexed path n) item) c.in_err-add_motif.field-0.0) place
    c.in_err-add_motif.ensures.keeps
    in
    let told =
    subst (λ (ms : List NamedMotif). TellsFirst (table (motif_rules c.args.colours c.args.size ms) (indexed path c.loop-item.item-index) item) c.in_err-add_motif.field-0.0)
    c.loop-item.invariant.so_far here
    in
    let p = err_from_is_err_and c.from_residual.result c.from_residual.ensures.1 in
    rw (p.1, p.2)
    (faults_stop check path c.args.items.now c.loop-item.item-index c.item-item.result c.loop-item-test.true c.item-item.is c.loop-item.invariant.none c.in_err-add_motif.field-0.0 told)

pub loop-item-preserved : goal.loop-item-preserved
unfolding path_of
loop-item-preserved c =
    let check : ItemCheck = λ earlier. table (motif_rules c.args.colours c.args.size (motifs_of earlier)) in
    let path = path_of c.args.path.now in
    let place = c.len-place.ensures ∙ c.loop-item.invariant.count in
    let item = view c.item-item.result in
    let gives = members_give named_motif_of in
    let here = subst (λ (n : ℕ). table (motif_rules c.args.colours c.args.size c.loop-item.motifs) (indexed path n) item ≡ []) place c.in_ok-add_motif.ensures.keeps in
    record {
      count = omega (arith, ap length c.in_ok-add_motif.ensures.added, length-append c.loop-item.motifs (gives item ∷ []), c.loop-item.invariant.count);
      none =
          faults_go_on check path c.args.items.now c.loop-item.item-index c.item-item.result c.loop-item-test.true c.item-item.is c.loop-item.invariant.none
          (subst (λ (ms : List NamedMotif). table (motif_rules c.args.colours c.args.size ms) (indexed path c.loop-item.item-index) item ≡ []) c.loop-item.invariant.so_far here);
      within = c.in_ok-add_motif.ensures.within c.loop-item.invariant.within;
      so_far =
          c.in_ok-add_motif.ensures.added ∙ ap (λ l. l ++ gives item ∷ []) c.loop-item.invariant.so_far
          ∙ sym (values_go_on (λ earlier. gives) c.args.items.now c.loop-item.item-index c.item-item.result c.loop-item-test.true c.item-item.is);
    }
