-- The items that an `Items` has left.
use Rattle.std.specs.Prelude.{List, map}
use Rattle.serde_json.specs.Data.{Data}
use Rattle.fed_json.specs.Tree.{view}
use Rattle.fed_json.specs.declared.items.Items.{Items}

abbrev pub left : Items → List Data
left s = map view s.values.now
