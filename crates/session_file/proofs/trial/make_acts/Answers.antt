use Rattle.std.proofs.Common.{ℕ, ◌+◌, List, [], ◌∷◌, ◌++◌, ap, sym, ◌∙◌, refl}
use Rattle.mill_base.specs.Lines.{line_by}
use Rattle.mill_base.proofs.lemmas.Lines.{line_by_more}
use Rattle.strokes.specs.declared.act.Act.{Act}
use Rattle.session_file.specs.Trials.{act_of, drawn, draws_before}
use Rattle.session_file.proofs.Trials.{more_draws, one_act_more}
use Rattle.session_file.proofs.trial.make_acts.Goals as goal

pub loop-k-init : goal.loop-k-init
unfolding line_by drawn draws_before
loop-k-init c = record { acts = c.in_ok-acts.ensures.items; drawn = refl }

pub loop-k-preserved : goal.loop-k-preserved
loop-k-preserved c =
    let k = c.loop-k.k in
    let cell : ℕ → Act = λ k. act_of c.args.n (k + 1) in
    let act = c.make_act.ensures.act ∙ one_act_more c.args.n k c.loop-k.x c.loop-k.invariant.drawn in
    record {
      acts =
          c.in_ok-push.ensures.items ∙ ap (λ (xs : List Act). xs ++ c.make_act.result ∷ []) c.loop-k.invariant.acts
          ∙ ap (λ (a : Act). line_by k cell ++ a ∷ []) act ∙ sym (line_by_more k cell);
      drawn = more_draws c.args.n k c.loop-k.x c.make_act.new.x c.loop-k.invariant.drawn c.make_act.ensures.next;
    }
