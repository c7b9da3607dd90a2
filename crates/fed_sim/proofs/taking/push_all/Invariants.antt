use Rattle.std.proofs.Common.{◌≡◌, All, length, map, string_bytes}
use Rattle.fed_sim.specs.Hosted.{rooms_of, arrivals_of}
use Rattle.fed_inbox.specs.Queues.{queues_from}
use Rattle.fed_sim.specs.Taking.{HasRoom, IsOfKnown}
use Rattle.fed_sim.proofs.taking.push_all.Given as goal

-- there is room for the events that are left, each of a room here, and with them the rooms hold what they are to hold
abbrev pub invariant-loop-event : goal.invariant-loop-event
invariant-loop-event l =
    let left = l.event-iterator.rest.items in
    let known = map string_bytes l.known in
    HasRoom (length left) l.rooms × (length l.rooms ≡ length l.fn.rooms) × (rooms_of l.rooms ≡ rooms_of l.fn.rooms)
    × (queues_from 0 known left (arrivals_of l.rooms) ≡ queues_from 0 known l.fn.events.items (arrivals_of l.fn.rooms)) × All (IsOfKnown known) left
