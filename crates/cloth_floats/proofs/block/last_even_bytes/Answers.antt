use Rattle.std.proofs.Common.{◌≡◌, ◌+◌, ◌-◌, ◌*◌, ◌%◌, ◌<◌, ◌≤◌, ◌==◌, ◌∙◌, ⊎_elim, eqb-true, arith}
use Rattle.std.specs.Int.{bit_at}
use Rattle.std.proofs.lemmas.Bool.{cases_lt}
use Rattle.cloth_floats.proofs.Sames.{same-refl}
use Rattle.cloth_floats.proofs.Evens.{set_left, set_right, set_both}
use Rattle.cloth_floats.proofs.block.last_even_bytes.Goals as goal

pub returns : goal.returns
returns c b low even =
    let told : bit_at c.eights.result (8 * b) ≡ 1 =
    (c.eights.ensures (8 * b) (omega arith)).1
    (λ j h. ⊎_elim
    (λ (within : 8 * b + j < (c.args.len - 1) % 64).
    set_left c.same_as_next.result c.window.result (8 * b + j)
    (eqb-true (bit_at c.same_as_next.result (8 * b + j)) 1
    (c.same_as_next.ensures.inner (8 * b + j) (omega arith) ∙ same-refl (bit_at c.args.word (8 * b + j) == 1) (bit_at c.args.word (8 * b + j + 1) == 1) (even j h within))))
    (λ (past : (c.args.len - 1) % 64 ≤ 8 * b + j).
    set_right c.same_as_next.result c.window.result (8 * b + j) (c.window.ensures.inside (8 * b + j) past (omega arith)))
    (cases_lt (8 * b + j) ((c.args.len - 1) % 64))) in
    set_both c.eights.result c.window-2.result (8 * b) told (c.window-2.ensures.inside (8 * b) (omega arith) (omega arith))
