use Rattle.std.proofs.Common.{arith, ◌≤◌, ◌<◌, ◌+◌, ◌∙◌}
use Rattle.std.proofs.lemmas.Option.{slice_get_within}
use Rattle.fed_sim.specs.Way.{WayState}
use Rattle.fed_sim.proofs.WayQueues.{same_seen, set_all}
use Rattle.fed_sim.proofs.entering.make_room.Goals as goal

pub returns-in_err-make_room-clause-ways : goal.returns-in_err-make_room-clause-ways
returns-in_err-make_room-clause-ways c =
    same_seen (λ (l : WayState). l.way) c.loop-way.ways c.loop-way.way-index c.make_room.new.self c.way-item.result c.make_room.ensures.way ∙ c.loop-way.invariant.0

pub loop-way-preserved : goal.loop-way-preserved
loop-way-preserved c = (
  same_seen (λ (l : WayState). l.way) c.loop-way.ways c.loop-way.way-index c.make_room.new.self c.way-item.result c.make_room.ensures.way ∙ c.loop-way.invariant.0,
  λ d way before here. set_all (λ k (l : WayState). k < c.loop-way.way-index + 1 → 1 ≤ l.free) c.loop-way.ways c.loop-way.way-index c.make_room.new.self
      (λ _. c.in_ok-make_room.ensures.room) (λ k l other there under. c.loop-way.invariant.1 k l (omega (arith, under, other)) there) d way here before,
)

pub returns-clause-ok : goal.returns-clause-ok
returns-clause-ok c = λ d way here. c.loop-way.invariant.1 d way (let within = slice_get_within c.loop-way.ways d way here in omega arith) here
