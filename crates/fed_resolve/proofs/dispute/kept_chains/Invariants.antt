use Rattle.std.proofs.Common.{map}
use Rattle.fed_room_contract.specs.Entry.{seen}
use Rattle.fed_room_contract.specs.Steps.{state_at}
use Rattle.fed_resolve.specs.KeptParts.{own_places}
use Rattle.fed_resolve.specs.MaskParts.{AreFirstMasks}
use Rattle.fed_resolve.proofs.dispute.kept_chains.Given as goal

-- the auth events of the states so far
abbrev pub invariant-loop-index : goal.invariant-loop-index
invariant-loop-index l = AreFirstMasks l.graph.stored (λ place. own_places l.graph.stored (map seen l.disputed) (state_at l.steps.after place)) l.places l.index l.masks.items
