use Rattle.strokes.proofs.Painted.{commit_leaves}
use Rattle.strokes.proofs.laws.a_commit_changes_no_paper.Goals as goal

pub returns : goal.returns
returns c = commit_leaves
