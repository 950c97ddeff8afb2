use Rattle.std.proofs.Common.{ap, ◌∙◌}
use Rattle.std.specs.Int.{bit_at}
use Rattle.mill_base.proofs.lemmas.Swaps.{mask_1, mask_2, place_2, within_2, mask_4, place_4, within_4, places_in_bytes}
use Rattle.mill_base.proofs.word.reversed_bytes.Goals as goal

pub swapped-pairs-requires-clause-mask : goal.swapped-pairs-requires-clause-mask
swapped-pairs-requires-clause-mask c = mask_1

pub swapped-fours-requires-clause-mask : goal.swapped-fours-requires-clause-mask
swapped-fours-requires-clause-mask c = mask_2

pub swapped-requires-clause-mask : goal.swapped-requires-clause-mask
swapped-requires-clause-mask c = mask_4

pub returns : goal.returns
returns c i within =
    c.swapped.ensures i within
    ∙ c.swapped-fours.ensures (place_4 i) (within_4 i within)
    ∙ c.swapped-pairs.ensures (place_2 (place_4 i)) (within_2 (place_4 i) (within_4 i within))
    ∙ ap (bit_at c.args.word) (places_in_bytes i within)
