use Rattle.std.proofs.Common.{◌≡◌, ◌+◌, ◌-◌, ◌*◌, ◌/◌, ◌%◌, ◌<◌, ◌≤◌, ◌==◌, not, length, sym, ap, ◌∙◌, ⊎_elim, bit_and, bit_or, eqb-true, arith}
use Rattle.std.specs.Int.{bit_at}
use Rattle.std.proofs.lemmas.Bool.{cases_lt, false_from_ne_true}
use Rattle.mill_base.specs.Bits.{bit_of}
use Rattle.cloth_floats.proofs.Evens.{bit_in_word, byte_kept, set_left, set_right}
use Rattle.cloth_floats.proofs.block.has_even_byte.Goals as goal

pub returns : goal.returns
returns c m within even =
    let words = c.args.words.now in
    let one = c.even_bytes.result in
    let other = c.last_even_bytes.result in
    let q = m / 8 in
    let b = m % 8 in
    let end = length words - 1 in
    let set : bit_at (bit_or one other) (8 * b) ≡ 1 = ⊎_elim
    (λ (inner : q + 1 < length words).
    set_left one other (8 * b)
    (c.even_bytes.ensures q b inner (omega arith)
    (λ j h. ap (bit_of words) (let e : 64 * q + 8 * b + j ≡ 8 * m + j = omega arith in e) ∙ even j h (omega (arith, c.requires.words))
    ∙ ap (bit_of words) (let e : 8 * m + j + 1 ≡ 64 * q + 8 * b + j + 1 = omega arith in e))))
    (λ (last : length words ≤ q + 1).
    set_right one other (8 * b)
    (c.last_even_bytes.ensures b (omega (arith, c.requires.words))
    (λ j h below.
    sym (bit_in_word words end (8 * b + j) (omega arith)) ∙ ap (bit_of words) (let e : 64 * end + (8 * b + j) ≡ 8 * m + j = omega (arith, c.requires.words) in e)
    ∙ even j h (omega (arith, c.requires.words))
    ∙ ap (bit_of words) (let e : 8 * m + j + 1 ≡ 64 * end + (8 * b + j + 1) = omega (arith, c.requires.words) in e)
    ∙ bit_in_word words end (8 * b + j + 1) (omega arith))))
    (cases_lt (q + 1) (length words)) in
    ap not (false_from_ne_true (bit_and (bit_or one other) 72340172838076673 == 0)
    (λ e. byte_kept (bit_or one other) b (omega arith) set (eqb-true (bit_and (bit_or one other) 72340172838076673) 0 e)))
