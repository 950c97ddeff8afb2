use Rattle.std.proofs.Common.{◌≡◌, [], length, map, take}
use Rattle.toml.specs.View.{view}
use Rattle.session_rules.specs.Checks.{each, text}
use Rattle.session_rules.specs.Paths.{path_of}
use Rattle.session_rules.specs.Values.{each_value, text_in}
use Rattle.session_rules.proofs.text_list.read_texts.Given as goal

abbrev pub invariant-loop-item : goal.invariant-loop-item
invariant-loop-item l = record {
  count : length l.texts ≡ l.item-index;
  none : each (λ earlier. text) (path_of l.fn.path) [] (map view (take l.item-index l.items)) ≡ [];
  so_far : l.texts ≡ each_value (λ earlier. text_in) [] (map view (take l.item-index l.items));
}
