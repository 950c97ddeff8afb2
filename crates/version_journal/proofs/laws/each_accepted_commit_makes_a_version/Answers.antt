use Rattle.version_journal.proofs.Histories.{versions_count}
use Rattle.version_journal.proofs.laws.each_accepted_commit_makes_a_version.Goals as goal

pub returns : goal.returns
returns c = versions_count
