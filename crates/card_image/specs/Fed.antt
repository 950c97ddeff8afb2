-- What a decoder has been fed.
use Rattle.std.specs.Prelude.{◌≡◌, ℕ, List, Option, None, Some, Result, Ok, Err}
use Rattle.card_image.specs.Sets.{CardDesign}
use Rattle.card_image.specs.Faults.{chain_fault}
use Rattle.card_image.specs.declared.fault.ChainFault.{ChainFault}

-- what contracts see of a decoder: the bytes that it has while there is no fault, and the first fault
pub record DecoderValue : Type 0 where
  pub design : CardDesign
  pub bytes : List ℕ
  pub fault : Option ChainFault

-- the decoder was fed these bytes, in whatever pieces
pub record WasFed (decoder : DecoderValue) (fed : List ℕ) : Type 0 where
  pub fault : decoder.fault ≡ chain_fault decoder.design fed
  pub bytes : decoder.fault ≡ None → decoder.bytes ≡ fed

-- Ok where there is no fault
abbrev pub told : Option ChainFault → Result (Unit {0}) ChainFault
told None = Ok tt
told (Some fault) = Err fault
