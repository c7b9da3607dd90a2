use Rattle.std.proofs.Common.{◌≡◌, take}
use Rattle.fed_hub_state.proofs.kept_room.copies.Given as goal

-- those that were passed
abbrev pub invariant-loop-event : goal.invariant-loop-event
invariant-loop-event l = l.copies.items ≡ take l.event-index l.events
