use Rattle.std.proofs.Common.{◌≡◌, Some}
use Rattle.session_file.specs.Readings.{HeldIn}
use Rattle.session_file.proofs.Decided.{has_broken_image, has_image, one_name}
use Rattle.session_file.proofs.laws.a_session_has_its_image.Goals as goal

pub returns-clause-files : goal.returns-clause-files
returns-clause-files c files = has_image (HeldIn files)

pub returns-clause-contents : goal.returns-clause-contents
returns-clause-contents c content_under = has_image (λ name content. content_under name ≡ Some content)

pub returns-clause-broken : goal.returns-clause-broken
returns-clause-broken c files = has_broken_image (HeldIn files)

pub returns-clause-named : goal.returns-clause-named
returns-clause-named c = one_name
