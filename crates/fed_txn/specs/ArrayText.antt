-- What the clauses of private functions say of an array that is written item by item.
use Rattle.std.specs.Prelude.{ℕ, List, ◌++◌}
use Rattle.serde_json.specs.Data.{Items}
use Rattle.serde_json.specs.Written.{items_text}
use Rattle.fed_txn.specs.declared.array_text.ArrayText.{ArrayText}

-- the text once these items are written and it is ended
abbrev pub completed : ArrayText → Items → List ℕ
completed array left = array.text.items ++ items_text array.later left
