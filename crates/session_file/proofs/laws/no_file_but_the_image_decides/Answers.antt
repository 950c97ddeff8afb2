use Rattle.session_file.specs.Readings.{HeldIn}
use Rattle.session_file.proofs.Decided.{broken_beside, denoted_beside}
use Rattle.session_file.proofs.laws.no_file_but_the_image_decides.Goals as goal

pub returns-clause-session : goal.returns-clause-session
returns-clause-session c files others = denoted_beside (HeldIn files) (HeldIn others)

pub returns-clause-broken : goal.returns-clause-broken
returns-clause-broken c files others = broken_beside (HeldIn files) (HeldIn others)
