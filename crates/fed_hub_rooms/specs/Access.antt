-- A room to which events are given. Its state is known where it is lent to one caller alone, and not where it lies under a lock.
use Rattle.std.specs.Prelude.{Option, Some, None, Result}
use Rattle.fed_event.specs.Checked.{CheckedEvent}
use Rattle.fed_room_contract.specs.declared.applying.Applied.{Applied}
use Rattle.fed_room_contract.specs.declared.applying.Stopped.{Stopped}
use Rattle.fed_hub_state.specs.Applying.{EventIsApplied}
use Rattle.fed_hub_state.specs.KeptRoom.{KeptState}

-- this became of the room where its state is known; where it isn't, it stays unknown
abbrev pub WhereKnown : (KeptState → KeptState → Type 0) → Option KeptState → Option KeptState → Type 0
WhereKnown Holds None None = Unit {0}
WhereKnown Holds None (Some new) = ⊥
WhereKnown Holds (Some old) None = ⊥
WhereKnown Holds (Some old) (Some new) = Holds old new

-- some room to which the event came told this
abbrev pub IsTold : CheckedEvent → Result Applied Stopped → Type 0
IsTold event told = (old new : KeptState) × EventIsApplied event old told new
