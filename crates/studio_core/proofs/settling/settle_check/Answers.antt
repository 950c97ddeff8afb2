use Rattle.std.proofs.Common.{◌≡◌, ◌⊎◌, inl, inr, Bool, List, true, false, length, get_or, refl, ap, ◌∙◌, ⊎_elim}
use Rattle.studio_core.proofs.settling.settle_check.Goals as goal

either : (b : Bool) → (b ≡ true) ⊎ (b ≡ false)
either true = inl refl
either false = inr refl

pub check_some-requires-clause-tiles : goal.check_some-requires-clause-tiles
check_some-requires-clause-tiles c = ap length c.row.ensures ∙ c.requires.check

pub returns-then-count-few-clause-right : goal.returns-then-count-few-clause-right
returns-then-count-few-clause-right c = λ t h clear.
    let check = c.args.check.now in
    let row : get_or c.row.result.now t false ≡ get_or check t false = ap (λ (xs : List Bool). get_or xs t false) c.row.ensures in
    ⊎_elim
    (λ (on : get_or check t false ≡ true). c.check_some.ensures.flags t h (row ∙ on))
    (λ (off : get_or check t false ≡ false). c.check_some.ensures.others t (row ∙ off) ∙ c.requires.right t h off)
    (either (get_or check t false))
