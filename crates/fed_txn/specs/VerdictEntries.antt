-- The map that the entries of a `Verdicts` stand for.
use Rattle.std.specs.Prelude.{ℕ, List, Option, option_map, String, string_bytes}
use Rattle.std.specs.declared.alloc.Global.{Global}
use Rattle.fed_json.specs.TextMap.{text_map}
use Rattle.fed_txn.specs.Verdicts.{VerdictMap}

abbrev pub Entry : Type 0
Entry = String Global × Option (String Global)

-- the bytes of an id and of the error's text
abbrev pub entry_bytes : Entry → List ℕ × Option (List ℕ)
entry_bytes e = (string_bytes e.0, option_map string_bytes e.1)

abbrev pub map_of : List Entry → VerdictMap
map_of es = text_map (option_map string_bytes) es
