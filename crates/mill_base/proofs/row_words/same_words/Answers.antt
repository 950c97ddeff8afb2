use Rattle.std.proofs.Common.{ap, sym, ◌∙◌}
use Rattle.std.proofs.lemmas.Slice.Eq.{bytes_eq-Decides}
use Rattle.mill_base.proofs.lemmas.Rows.{words_from_bits}
use Rattle.mill_base.specs.Bits.{bit_of}
use Rattle.mill_base.proofs.row_words.same_words.Goals as goal

pub returns : goal.returns
returns c =
    let test = bytes_eq-Decides c.args.one.now c.args.other.now in (
      λ yes k _. ap (λ words. bit_of words k) (test.0 (sym c.eq.ensures ∙ yes)),
      λ same. c.eq.ensures ∙ test.1 (words_from_bits c.args.one.now c.args.other.now c.requires c.type_inv.one c.type_inv.other same),
    )
