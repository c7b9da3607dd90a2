use Rattle.std.proofs.Common.{◌≡◌, take, All}
use Rattle.fed_room_contract.specs.Steps.{state_at}
use Rattle.fed_room.proofs.resolved.one_of.Given as goal

-- the places so far are of one state
abbrev pub invariant-loop-place : goal.invariant-loop-place
invariant-loop-place l = All (λ other. state_at l.states.after other ≡ state_at l.states.after l.first) (take l.place-index l.places)
