use Rattle.std.proofs.Common.{◌≡◌, map}
use Rattle.fed_json.proofs.TextMaps.{entry_seen}
use Rattle.fed_room_contract.proofs.Filled.{with_all}
use Rattle.fed_room_contract.proofs.keyed.Keyed.copy.Given as goal

-- what is left decides
abbrev pub invariant-loop-key : goal.invariant-loop-key
invariant-loop-key l = with_all l.copy (map (entry_seen (λ id. id)) l.key-iterator) ≡ l.self
