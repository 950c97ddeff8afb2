use Rattle.session_file.proofs.Decided.{not_too_long}
use Rattle.session_file.proofs.laws.a_file_is_not_both_read_and_too_long.Goals as goal

pub returns : goal.returns
returns c = not_too_long
