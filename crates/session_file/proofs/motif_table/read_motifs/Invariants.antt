use Rattle.std.proofs.Common.{◌≡◌, [], length, map, take}
use Rattle.toml.specs.View.{view}
use Rattle.session_rules.specs.Checks.{each}
use Rattle.session_rules.specs.Paths.{path_of}
use Rattle.session_rules.specs.Tables.{table}
use Rattle.session_file.specs.Rules.{motif_rules}
use Rattle.session_file.specs.Values.{motifs_of}
use Rattle.session_file.specs.inner.Drafts.{FitMotifs}
use Rattle.session_file.proofs.motif_table.read_motifs.Given as goal

abbrev pub invariant-loop-item : goal.invariant-loop-item
invariant-loop-item l = record {
  count : length l.motifs ≡ l.item-index;
  none : each (λ earlier. table (motif_rules l.colours l.size (motifs_of earlier))) (path_of l.fn.path) [] (map view (take l.item-index l.items)) ≡ [];
  within : FitMotifs l.colours l.size l.motifs;
  so_far : l.motifs ≡ motifs_of (map view (take l.item-index l.items));
}
