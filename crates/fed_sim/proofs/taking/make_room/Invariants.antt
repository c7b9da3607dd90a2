use Rattle.std.proofs.Common.{◌≡◌, ◌<◌, ◌≤◌, ℕ, Some}
use Rattle.std.specs.List.{slice_get}
use Rattle.fed_sim.specs.Hosted.{HostedState, rooms_of, arrivals_of}
use Rattle.fed_sim.proofs.taking.make_room.Given as goal

-- the rooms that were passed have the room for events, and hold what they held
abbrev pub invariant-loop-hosted : goal.invariant-loop-hosted
invariant-loop-hosted l =
    (rooms_of l.rooms ≡ rooms_of l.initial.rooms) × (arrivals_of l.rooms ≡ arrivals_of l.initial.rooms)
    × ((k : ℕ) (hosted : HostedState) → k < l.hosted-index → slice_get l.rooms k ≡ Some hosted → 50 ≤ hosted.free)
