use Rattle.std.proofs.Common.{◌≡◌, ◌-◌, ◌+◌, ◌<◌, ◌≤◌, ◌⊎◌, ⊎_elim, inl, inr, take, drop, length, ap, sym, subst, ◌∙◌, arith}
use Rattle.std.specs.Prelude.{Contains, None}
use Rattle.std.specs.Option.{option_or}
use Rattle.std.proofs.lemmas.Bool.{cases_lt}
use Rattle.std.proofs.lemmas.List.{get_or-take, get_or-drop, length-take-le, length-drop, take_all}
use Rattle.strokes.specs.inner.Spans.{AreLaidInside, laid, laid_round}
use Rattle.strokes.proofs.Covers.{added_twice, on_ok}
use Rattle.strokes.proofs.Runs.{laid_cut}
use Rattle.strokes.proofs.stamp.push_row.Goals as goal

pub returns : goal.returns
returns c size all columns low among =
    let cells = c.args.cells.now in
    let edge = c.min-edge.result in
    let behind = take (length cells - edge) (drop edge cells) in
    let rest : behind ≡ drop edge cells = take_all (length cells - edge) (drop edge cells) (omega (arith, length-drop edge cells)) in
    let short : edge ≤ length cells = omega (arith, c.min-edge.ensures) in
    let near : edge ≤ c.args.columns - c.args.column = omega (arith, c.min-edge.ensures) in
    let cut : edge ≡ length cells ⊎ edge ≡ c.args.columns - c.args.column = ⊎_elim
    (λ (h : c.args.columns - c.args.column < length cells). inr (omega (arith, c.min-edge.ensures, h)))
    (λ (h : length cells ≤ c.args.columns - c.args.column). inl (omega (arith, c.min-edge.ensures, h)))
    (cases_lt (c.args.columns - c.args.column) (length cells)) in
    let first : AreLaidInside size all (take edge cells) c.args.column c.args.pick = record {
      low = low;
      within = omega (arith, length-take-le edge cells short, near, columns, c.requires.column);
      among = λ k below.
          subst (λ x. Contains all x) (sym (get_or-take edge cells k None (omega (arith, below, length-take-le edge cells short))))
          (among k (omega (arith, below, short, length-take-le edge cells short)));
    } in
    let second : AreLaidInside size all (drop edge cells) 0 c.args.pick = record {
      low = low;
      within = omega (arith, length-drop edge cells, columns, c.requires.few);
      among = λ k below. subst (λ x. Contains all x) (sym (get_or-drop edge cells k None)) (among (edge + k) (omega (arith, below, length-drop edge cells)));
    } in
    on_ok c.push_runs-2.result _ _ (c.push_runs-2.ensures size all (subst (λ xs. AreLaidInside size all xs 0 c.args.pick) (sym rest) second))
    (λ over. added_twice size all (laid (take edge cells) c.args.column c.args.pick) (laid behind 0 c.args.pick) (laid_round cells c.args.columns c.args.column c.args.pick) c.args.spans.now.items
    c.push_runs.new.spans.items c.push_runs-2.new.spans.items (c.in_ok-push_runs.ensures size all first) over
    (λ x y below _. ap (λ xs. option_or (laid xs 0 c.args.pick x y) (laid (take edge cells) c.args.column c.args.pick x y)) rest
    ∙ laid_cut cells c.args.columns c.args.column c.args.pick edge x y c.requires.column c.requires.few (omega (arith, columns, below)) cut short near))
