use Rattle.shed_publish.proofs.lemmas.Prefixes.{kept_entry, prefix_length, same_past_known}
use Rattle.shed_publish.proofs.laws.entries_stay_where_a_list_grows.Goals as goal

pub returns-clause-entry : goal.returns-clause-entry
returns-clause-entry c = kept_entry

pub returns-clause-length : goal.returns-clause-length
returns-clause-length c = prefix_length

pub returns-clause-same : goal.returns-clause-same
returns-clause-same c = same_past_known
