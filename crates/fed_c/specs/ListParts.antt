-- Items that are added to an array one after another, for the clauses of private functions.
use Rattle.std.specs.Prelude.{List, [], ◌∷◌}
use Rattle.serde_json.specs.Data.{Data}
use Rattle.fed_json.specs.Editing.{with_item}

abbrev pub with_items : Data → List Data → Data
with_items list [] = list
with_items list (value ∷ values) = with_items (with_item value list) values
