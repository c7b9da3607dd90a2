-- What a server answers about the events of a transaction: for each event id nothing, or the text of an error.
use Rattle.std.specs.Prelude.{◌≡◌, ℕ, List, true, if◌then◌else◌, Option}
use Rattle.std.specs.Coded.{Coded, coded_ℕ, coded_list, coded_option}
use Rattle.std.specs.FinMap as map
use Rattle.std.specs.List.{list_all}
use Rattle.fed_json.specs.TextMap.{TextMap, text_map_code}
use Rattle.std.specs.Str.{is_utf8}

-- from the bytes of an id, in their order
abbrev pub VerdictMap : Type 0
VerdictMap = TextMap (Option (List ℕ))

abbrev pub verdict_map_code : Coded VerdictMap
verdict_map_code = text_map_code (coded_option (coded_list coded_ℕ))

-- the map with a verdict about one more id; an id that is there keeps its verdict
abbrev pub with_verdict : VerdictMap → List ℕ → Option (List ℕ) → VerdictMap
with_verdict verdicts id error = if map.contains_key verdicts id then verdicts else map.insert verdicts id error

-- every id is a text
abbrev pub HasTextIds : VerdictMap → Type 0
HasTextIds verdicts = list_all is_utf8 (map.keys verdicts) ≡ true
