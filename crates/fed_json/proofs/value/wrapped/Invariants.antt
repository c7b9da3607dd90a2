use Rattle.std.proofs.Common.{◌≡◌, map, ◌++◌}
use Rattle.serde_json.specs.Read.{max_depth}
use Rattle.fed_json.specs.Tree.{view, items_view}
use Rattle.fed_json.specs.Profile.{AreWithin}
use Rattle.fed_json.proofs.value.wrapped.Given as goal

-- what is wrapped, and what is left
abbrev pub invariant-loop-value : goal.invariant-loop-value
invariant-loop-value l = record {
  same : l.items.items ++ map view l.value-iterator.rest.items ≡ map view l.fn.values.items;
  within : AreWithin max_depth (items_view l.value-iterator.rest.items);
}
