use Rattle.std.proofs.Common.{◌≡◌, false, arith}
use Rattle.std.proofs.lemmas.Bool.{not-true}
use Rattle.cloth_floats.proofs.Evens.{nowhere_over, nowhere_long}
use Rattle.cloth_floats.proofs.block.is_plain.Goals as goal

pub returns : goal.returns
returns c plain k h =
    let none : c.has_even_byte.result ≡ false = not-true c.has_even_byte.result plain in
    let over = nowhere_over c.args.line.now c.words.result.now c.has_even_byte.result c.words.ensures
    (λ m within even. c.has_even_byte.ensures m (omega (arith, c.len.ensures)) (λ j low inner. even j low (omega (arith, c.len.ensures)))) none in
    nowhere_long c.args.line.now c.args.lifted c.args.unlifted k (over c.args.lifted k (omega (arith, c.min.ensures)) h) (over c.args.unlifted k (omega (arith, c.min.ensures)) h)
