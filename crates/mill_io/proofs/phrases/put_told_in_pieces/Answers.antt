use Rattle.std.proofs.Common.{◌++◌, map}
use Rattle.std.specs.List.{concat}
use Rattle.std.proofs.lemmas.Result.{err_from_is_err_and}
use Rattle.mill_base.specs.Phrases.{phrase_text}
use Rattle.mill_io.specs.Names.{shown_name}
use Rattle.mill_io.proofs.lemmas.Told.{first_failed, second_failed, third_put}
use Rattle.mill_io.proofs.phrases.put_told_in_pieces.Goals as goal

pub returns-in_err-put_named-clause-taken : goal.returns-in_err-put_named-clause-taken
returns-in_err-put_named-clause-taken g c = let p = err_from_is_err_and c.from_residual.result c.from_residual.ensures.1 in rw (p.1)
    (first_failed (concat (map (λ text. text.now) c.args.before.now) ++ shown_name c.args.name.now ++ c.args.between.now) (phrase_text c.args.phrase.now) c.args.after.now _ _
    c.in_err-put_named.ensures.taken)

pub returns-in_err-put_phrase-clause-taken : goal.returns-in_err-put_phrase-clause-taken
returns-in_err-put_phrase-clause-taken g c = let p = err_from_is_err_and c.from_residual-in_err-put_phrase.result c.from_residual-in_err-put_phrase.ensures.1 in rw (p.1)
    (second_failed (concat (map (λ text. text.now) c.args.before.now) ++ shown_name c.args.name.now ++ c.args.between.now) (phrase_text c.args.phrase.now) c.args.after.now _
    (g.K.Sink.taken c.put_named.new.out) _ c.in_ok-put_named.ensures.taken c.in_err-put_phrase.ensures.taken)

pub returns-clause-taken : goal.returns-clause-taken
returns-clause-taken g c =
    third_put (concat (map (λ text. text.now) c.args.before.now) ++ shown_name c.args.name.now ++ c.args.between.now) (phrase_text c.args.phrase.now) c.args.after.now _
    (g.K.Sink.taken c.put_named.new.out) (g.K.Sink.taken c.put_phrase.new.out) _
    c.put_pieces.result c.in_ok-put_named.ensures.taken c.in_ok-put_phrase.ensures.taken c.put_pieces.ensures.taken
