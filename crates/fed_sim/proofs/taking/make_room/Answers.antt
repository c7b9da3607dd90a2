use Rattle.std.proofs.Common.{arith, ◌≤◌, ◌<◌, ◌+◌, ap, ◌∙◌}
use Rattle.std.proofs.lemmas.Option.{slice_get_within}
use Rattle.fed_room.specs.Room.{RoomValue, room_of}
use Rattle.fed_sim.specs.Hosted.{HostedState}
use Rattle.fed_sim.proofs.WayQueues.{same_seen, set_all}
use Rattle.fed_sim.proofs.taking.make_room.Goals as goal

pub returns-in_err-make_room-clause-rooms : goal.returns-in_err-make_room-clause-rooms
returns-in_err-make_room-clause-rooms c =
    same_seen (λ (h : HostedState). room_of h.room) c.loop-hosted.rooms c.loop-hosted.hosted-index c.make_room.new.self c.hosted-item.result (ap (λ (r : RoomValue). room_of r) c.make_room.ensures.room)
    ∙ c.loop-hosted.invariant.0

pub returns-in_err-make_room-clause-arrivals : goal.returns-in_err-make_room-clause-arrivals
returns-in_err-make_room-clause-arrivals c =
    same_seen (λ (h : HostedState). h.queue) c.loop-hosted.rooms c.loop-hosted.hosted-index c.make_room.new.self c.hosted-item.result c.make_room.ensures.queue ∙ c.loop-hosted.invariant.1

pub loop-hosted-preserved : goal.loop-hosted-preserved
loop-hosted-preserved c = (
  same_seen (λ (h : HostedState). room_of h.room) c.loop-hosted.rooms c.loop-hosted.hosted-index c.make_room.new.self c.hosted-item.result (ap (λ (r : RoomValue). room_of r) c.make_room.ensures.room)
      ∙ c.loop-hosted.invariant.0,
  same_seen (λ (h : HostedState). h.queue) c.loop-hosted.rooms c.loop-hosted.hosted-index c.make_room.new.self c.hosted-item.result c.make_room.ensures.queue ∙ c.loop-hosted.invariant.1,
  λ k hosted before here. set_all (λ j (h : HostedState). j < c.loop-hosted.hosted-index + 1 → 50 ≤ h.free) c.loop-hosted.rooms c.loop-hosted.hosted-index c.make_room.new.self
      (λ _. c.in_ok-make_room.ensures.free) (λ j h other there under. c.loop-hosted.invariant.2 j h (omega (arith, under, other)) there) k hosted here before,
)

pub returns-clause-ok : goal.returns-clause-ok
returns-clause-ok c = λ k room here. c.loop-hosted.invariant.2 k room (let within = slice_get_within c.loop-hosted.rooms k room here in omega arith) here
