use Rattle.fed_room.specs.States.{states_after}
use Rattle.fed_room.proofs.room.Room.decided.Goals as goal

pub returns-clause-there : goal.returns-clause-there
returns-clause-there c = c.in_ok-after.ensures.there (states_after c.args.self.now.store.room.stored) c.in_ok-before.ensures.kept
