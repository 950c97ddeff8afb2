use Rattle.std.proofs.Common.{ap}
use Rattle.std.specs.Prelude.{slice_get}
use Rattle.std.proofs.lemmas.Result.{err_from_is_err_and}
use Rattle.strokes.specs.Acts.{act_faults, act_of, act_of_words, parts_of}
use Rattle.strokes.specs.declared.act.Act.TheVariants as act
use Rattle.strokes.specs.declared.act.ActKind.TheVariants.{Rect}
use Rattle.strokes.proofs.Told.{told_fault, told_act}
use Rattle.strokes.proofs.spelling.rect.Goals as goal

pub returns-in_err-corners-clause-act : goal.returns-in_err-corners-clause-act
unfolding act_of_words
returns-in_err-corners-clause-act c =
    let p = err_from_is_err_and c.from_residual.result c.from_residual.ensures.1 in
    rw (p.1, p.2) (λ motifs.
    told_fault (act_of motifs Rect c.args.words.now) (slice_get (act_faults c.args.colours c.args.size motifs (parts_of Rect) c.args.words.now) 0) _ (c.in_err-corners.ensures.fault motifs))

pub returns-clause-act : goal.returns-clause-act
unfolding act_of_words
returns-clause-act c motifs =
    told_act _ (act_of motifs Rect c.args.words.now) (slice_get (act_faults c.args.colours c.args.size motifs (parts_of Rect) c.args.words.now) 0) (c.in_ok-corners.ensures.sound motifs)
    (ap (λ corners. act.Rect corners.colour corners.column0 corners.pick0 corners.column1 corners.pick1) c.in_ok-corners.ensures.corners)
