use Rattle.std.proofs.Common.{◌≡◌, Some}
use Rattle.session_file.specs.Readings.{HeldIn}
use Rattle.session_file.proofs.Decided.{one_content, no_rule_broken, one_under}
use Rattle.session_file.proofs.laws.what_denotes_a_session_breaks_no_rule.Goals as goal

pub returns-clause-files : goal.returns-clause-files
returns-clause-files c files = no_rule_broken c.every_file_is_one_image_or_has_a_fault.ensures.one (HeldIn (Some files)) (one_content files)

pub returns-clause-contents : goal.returns-clause-contents
returns-clause-contents c content_under = no_rule_broken c.every_file_is_one_image_or_has_a_fault.ensures.one (λ name content. content_under name ≡ Some content) (one_under content_under)
