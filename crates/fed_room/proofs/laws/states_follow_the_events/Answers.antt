use Rattle.std.proofs.Common.{refl}
use Rattle.fed_room.specs.States.{resolved_after}
use Rattle.fed_room.proofs.AfterEvents.{after-are, after-only}
use Rattle.fed_room.proofs.laws.states_follow_the_events.Goals as goal

pub returns : goal.returns
unfolding resolved_after
returns c = record {
  before = λ events event. refl;
  after = after-are;
  only = λ events after id graph are is. after-only events graph after are id is;
}
