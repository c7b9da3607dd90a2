-- The value that a `JsonRef` looks at, and the parts of a value.
use Rattle.std.specs.Prelude.{ℤ, ℕ, List, [], ◌∷◌, Option, option_map, option_and_then}
use Rattle.serde_json.specs.Data.{Data, Items, no_items, item, Members, no_members, member}
use Rattle.serde_json.specs.Find.{as_number, as_i64, as_array, as_object}
use Rattle.fed_json.specs.Tree.{view}
use Rattle.fed_json.specs.declared.json_ref.JsonRef.{JsonRef}

abbrev pub seen : JsonRef → Data
seen r = view r.value.now

-- the number, of a value that is a whole number of 64 bits
abbrev pub as_whole : Data → Option ℤ
as_whole d = option_and_then as_i64 (as_number d)

abbrev pub list_of : Items → List Data
list_of no_items = []
list_of (item d ds) = d ∷ list_of ds

-- the items, of a value that is an array
abbrev pub as_items : Data → Option (List Data)
as_items d = option_map list_of (as_array d)

-- each name with its value, in the order of the members
abbrev pub pairs_of : Members → List (List ℕ × Data)
pairs_of no_members = []
pairs_of (member k d ms) = (k, d) ∷ pairs_of ms

-- the members, of a value that is an object
abbrev pub as_members : Data → Option (List (List ℕ × Data))
as_members d = option_map pairs_of (as_object d)
