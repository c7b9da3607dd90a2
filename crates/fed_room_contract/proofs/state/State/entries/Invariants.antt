use Rattle.std.proofs.Common.{◌≡◌, ◌++◌, map}
use Rattle.std.specs.FinMap as finite
use Rattle.fed_json.proofs.TextMaps.{entry_seen}
use Rattle.fed_room_contract.specs.Entry.{seen}
use Rattle.fed_room_contract.specs.StateParts.{all_entries}
use Rattle.fed_room_contract.proofs.state.State.entries.Given as goal

-- what is there, and what is left
abbrev pub invariant-loop-kind : goal.invariant-loop-kind
invariant-loop-kind l = map seen l.entries.items ++ all_entries (map (entry_seen (λ ids. ids)) l.kind-iterator) ≡ finite.entries l.self
