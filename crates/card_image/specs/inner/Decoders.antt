-- What holds of a decoder's parts.
use Rattle.std.specs.Prelude.{◌≡◌, ◌≤◌, ℕ, List, length, Option, None}
use Rattle.card_image.specs.Sets.{CardDesign}
use Rattle.card_image.specs.Faults.{chain_fault}
use Rattle.card_image.specs.Places.{chain_length}
use Rattle.card_image.specs.declared.fault.ChainFault.{ChainFault}
use Rattle.card_image.specs.declared.plan.Plan.{Plan}

-- what the cards of a plan are for
abbrev pub design_of : Plan → CardDesign
design_of plan = record { hooks = plan.hooks; picks = plan.picks; columns = plan.columns.items }

-- there is room for the whole chain, and while there is no fault the bytes so far show none
pub record IsDecoder (d : CardDesign) (bytes : List ℕ) (capacity : ℕ) (fault : Option ChainFault) : Type 0 where
  pub short : length bytes ≤ chain_length d
  pub room : chain_length d ≤ capacity
  pub clean : fault ≡ None → chain_fault d bytes ≡ None
