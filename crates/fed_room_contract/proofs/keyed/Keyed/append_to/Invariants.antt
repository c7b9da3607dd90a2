use Rattle.std.proofs.Common.{◌≡◌, ◌++◌, map}
use Rattle.std.specs.FinMap as finite
use Rattle.fed_json.proofs.TextMaps.{entry_seen}
use Rattle.fed_room_contract.specs.Entry.{seen}
use Rattle.fed_room_contract.specs.StateParts.{entries_of}
use Rattle.fed_room_contract.proofs.keyed.Keyed.append_to.Given as goal

-- what is there, and what is left
abbrev pub invariant-loop-key : goal.invariant-loop-key
invariant-loop-key l = map seen l.entries.items ++ entries_of l.kind (map (entry_seen (λ id. id)) l.key-iterator) ≡ map seen l.initial.entries.items ++ entries_of l.kind (finite.entries l.self)
