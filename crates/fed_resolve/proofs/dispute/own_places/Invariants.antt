use Rattle.std.proofs.Common.{◌≡◌, ◌<◌, All, length, map, take}
use Rattle.fed_room_contract.specs.Entry.{seen}
use Rattle.fed_room_contract.specs.Steps.{state_at}
use Rattle.fed_resolve.specs.KeptParts.{own_places}
use Rattle.fed_resolve.proofs.dispute.own_places.Given as goal

-- the places at the keys so far
abbrev pub invariant-loop-entry : goal.invariant-loop-entry
invariant-loop-entry l = record {
  within : All (λ place. place < length l.graph.stored) l.places.items;
  so_far : l.places.items ≡ own_places l.graph.stored (map seen (take l.entry-index l.disputed)) (state_at l.steps.after l.place);
}
