use Rattle.session_file.proofs.Decided.{one_content}
use Rattle.session_file.proofs.laws.a_shelf_holds_one_content.Goals as goal

pub returns : goal.returns
returns c = one_content
