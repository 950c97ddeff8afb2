use Rattle.std.proofs.Common.{◌≡◌, Some}
use Rattle.session_file.specs.Readings.{HeldIn}
use Rattle.session_file.proofs.Decided.{session_or_fault}
use Rattle.session_file.proofs.laws.bytes_are_a_session_or_break_a_rule.Goals as goal

pub returns-clause-files : goal.returns-clause-files
returns-clause-files c files = session_or_fault c.every_file_is_one_image_or_has_a_fault.ensures.decided (HeldIn files)

pub returns-clause-contents : goal.returns-clause-contents
returns-clause-contents c content_under = session_or_fault c.every_file_is_one_image_or_has_a_fault.ensures.decided (λ name content. content_under name ≡ Some content)
