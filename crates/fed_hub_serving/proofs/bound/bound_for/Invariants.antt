use Rattle.std.proofs.Common.{◌≡◌, map, take, string_bytes}
use Rattle.fed_hub_serving.specs.Bound.{bound_of}
use Rattle.fed_hub_serving.proofs.bound.bound_for.Given as goal

-- those that were passed
abbrev pub invariant-loop-event : goal.invariant-loop-event
invariant-loop-event l = l.bound.items ≡ map (bound_of (map string_bytes l.known)) (take l.event-index l.events)
