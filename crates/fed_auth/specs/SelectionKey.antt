-- The keys that a selector names.
use Rattle.std.specs.Prelude.{List, Option, map, option_map}
use Rattle.fed_room_contract.specs.State.{StateKey}
use Rattle.fed_auth.specs.declared.selector.Key.{Key}

abbrev pub seen : Key → StateKey
seen key = (key.kind.now, key.state_key.now)

abbrev pub all_seen : List (Option Key) → List (Option StateKey)
all_seen keys = map (option_map seen) keys
