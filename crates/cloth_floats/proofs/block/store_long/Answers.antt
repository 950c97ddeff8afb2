use Rattle.std.proofs.Common.{length, replicate, false, sym, ap, ◌∙◌}
use Rattle.std.proofs.lemmas.List.{ext_get_or, length-replicate, get_or-replicate}
use Rattle.cloth_floats.proofs.block.store_long.Goals as goal

pub returns : goal.returns
returns c =
    let long = c.args.long.now in
    c.fill.ensures ∙ ap (λ n. replicate n false) c.requires.out
    ∙ sym (ext_get_or false long (replicate (length long) false) (sym (length-replicate (length long) false))
    (λ k h. c.requires.none c.if-some.false k h ∙ sym (get_or-replicate (length long) k false false h)))
