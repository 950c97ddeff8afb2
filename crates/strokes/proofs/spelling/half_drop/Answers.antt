use Rattle.std.proofs.Common.{ap}
use Rattle.std.specs.Prelude.{slice_get}
use Rattle.std.proofs.lemmas.Result.{err_from_is_err_and}
use Rattle.strokes.specs.Acts.{act_faults, act_of, act_of_words, parts_of}
use Rattle.strokes.specs.declared.act.Act.TheVariants as act
use Rattle.strokes.specs.declared.act.ActKind.TheVariants.{HalfDrop}
use Rattle.strokes.proofs.Told.{told_fault, told_act}
use Rattle.strokes.proofs.spelling.half_drop.Goals as goal

pub returns-in_err-place-clause-act : goal.returns-in_err-place-clause-act
unfolding act_of_words
returns-in_err-place-clause-act c =
    let p = err_from_is_err_and c.from_residual.result c.from_residual.ensures.1 in
    rw (p.1, p.2) (λ colours.
    told_fault (act_of c.args.motifs.now HalfDrop c.args.words.now) (slice_get (act_faults colours c.args.size c.args.motifs.now (parts_of HalfDrop) c.args.words.now) 0) _ (c.in_err-place.ensures.fault colours))

pub returns-clause-act : goal.returns-clause-act
unfolding act_of_words
returns-clause-act c colours =
    told_act _ (act_of c.args.motifs.now HalfDrop c.args.words.now) (slice_get (act_faults colours c.args.size c.args.motifs.now (parts_of HalfDrop) c.args.words.now) 0) (c.in_ok-place.ensures.sound colours)
    (ap (λ place. act.HalfDrop place.motif place.column place.pick) c.in_ok-place.ensures.place)
