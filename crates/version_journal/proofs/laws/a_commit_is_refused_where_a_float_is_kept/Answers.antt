use Rattle.std.proofs.Common.{sym}
use Rattle.version_journal.proofs.Papers.{told_where_kept}
use Rattle.version_journal.proofs.laws.a_commit_is_refused_where_a_float_is_kept.Goals as goal

pub returns : goal.returns
returns c design paper fits of = sym (told_where_kept c.a_cloth_keeps_a_float_where_one_is_told.ensures design paper fits of.picks)
