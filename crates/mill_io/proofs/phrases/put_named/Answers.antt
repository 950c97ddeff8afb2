use Rattle.std.proofs.Common.{map}
use Rattle.std.specs.List.{concat}
use Rattle.std.proofs.lemmas.Result.{err_from_is_err_and}
use Rattle.mill_io.specs.Names.{shown_name}
use Rattle.mill_io.proofs.lemmas.Told.{first_failed, second_failed, third_put}
use Rattle.mill_io.proofs.phrases.put_named.Goals as goal

pub returns-in_err-put_all-clause-taken : goal.returns-in_err-put_all-clause-taken
returns-in_err-put_all-clause-taken g c = let p = err_from_is_err_and c.from_residual.result c.from_residual.ensures.1 in rw (p.1)
    (first_failed (concat (map (λ text. text.now) c.args.before.now)) (shown_name c.args.name.now) c.args.between.now _ _ c.in_err-put_all.ensures.taken)

pub returns-in_err-put_name-clause-taken : goal.returns-in_err-put_name-clause-taken
returns-in_err-put_name-clause-taken g c = let p = err_from_is_err_and c.from_residual-in_err-put_name.result c.from_residual-in_err-put_name.ensures.1 in rw (p.1)
    (second_failed (concat (map (λ text. text.now) c.args.before.now)) (shown_name c.args.name.now) c.args.between.now _ (g.K.Sink.taken c.put_all.new.out) _
    c.in_ok-put_all.ensures.taken c.in_err-put_name.ensures.taken)

pub returns-clause-taken : goal.returns-clause-taken
returns-clause-taken g c =
    third_put (concat (map (λ text. text.now) c.args.before.now)) (shown_name c.args.name.now) c.args.between.now _ (g.K.Sink.taken c.put_all.new.out) (g.K.Sink.taken c.put_name.new.out) _
    c.put_pieces.result c.in_ok-put_all.ensures.taken c.in_ok-put_name.ensures.taken c.put_pieces.ensures.taken
