-- Keys that are added to an array one after another, for the clauses of private functions.
use Rattle.std.specs.Prelude.{List, [], ◌∷◌, Option, Some, None}
use Rattle.serde_json.specs.Data.{Data}
use Rattle.fed_json.specs.Editing.{with_item}
use Rattle.fed_room_contract.specs.State.{StateKey}
use Rattle.fed_c.specs.Selection.{key_value}

-- the array with this key at its end, where it is one
abbrev pub with_key : Data → Option StateKey → Data
with_key list None = list
with_key list (Some key) = with_item (key_value key) list

abbrev pub with_keys : Data → List (Option StateKey) → Data
with_keys list [] = list
with_keys list (key ∷ keys) = with_keys (with_key list key) keys
