use Rattle.version_journal.proofs.Papers.{papers_fit}
use Rattle.version_journal.proofs.laws.versions_are_papers_of_the_design.Goals as goal

pub returns-clause-paper : goal.returns-clause-paper
returns-clause-paper c design opening acts fits each = (papers_fit design opening acts fits each).now

pub returns-clause-versions : goal.returns-clause-versions
returns-clause-versions c design opening acts fits each = (papers_fit design opening acts fits each).made
