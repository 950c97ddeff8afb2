use Rattle.card_image.specs.inner.Kept.{face_of, holes_in}
use Rattle.card_image.proofs.Sound.{whole_sound}
use Rattle.card_image.proofs.laws.bytes_without_a_fault_are_a_chain.Goals as goal

pub returns : goal.returns
returns c d bytes small none = (face_of bytes, holes_in d bytes, whole_sound d bytes small none)
