use Rattle.std.proofs.Common.{◌≡◌, map}
use Rattle.std.specs.BTreeMap.{IsOrdered}
use Rattle.std.specs.String.{string_cmp}
use Rattle.fed_json.proofs.TextMaps.{entry_seen}
use Rattle.fed_room_contract.specs.StateParts.{kinds_of, flattened}
use Rattle.fed_room_contract.proofs.Filled.{with_all}
use Rattle.fed_room_contract.proofs.state.State.copy.Given as goal

-- what is left decides
abbrev pub invariant-loop-kind : goal.invariant-loop-kind
invariant-loop-kind l = record {
  ordered : IsOrdered string_cmp l.kinds;
  left : flattened (with_all (kinds_of l.kinds.entries) (map (entry_seen (λ ids. ids)) l.kind-iterator)) ≡ l.self;
}
