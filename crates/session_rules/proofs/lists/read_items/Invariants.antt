use Rattle.std.proofs.Common.{◌≡◌, All, [], length, map, take}
use Rattle.toml.specs.View.{view}
use Rattle.session_rules.specs.Checks.{each}
use Rattle.session_rules.specs.Paths.{path_of}
use Rattle.session_rules.specs.Values.{each_value}
use Rattle.session_rules.proofs.lists.read_items.Given as goal

abbrev pub invariant-loop-item : goal.invariant-loop-item
invariant-loop-item g l = record {
  count : length l.values ≡ l.item-index;
  none : each (g.F.Form.faults l.form) (path_of l.fn.path) [] (map view (take l.item-index l.items)) ≡ [];
  within : All (g.F.Form.fits l.form) l.values;
  so_far : l.values ≡ each_value (g.F.Form.gives l.form) [] (map view (take l.item-index l.items));
}
