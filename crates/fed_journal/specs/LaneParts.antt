-- The lane that the fields of a `Lane` stand for, and how they hold together.
use Rattle.std.specs.Prelude.{◌+◌, ◌≤◌, vec_len, vec_capacity}
use Rattle.fed_journal.specs.declared.lane.Lane.TheInside.{Inside}
use Rattle.fed_journal.specs.Lane.{LaneState}

abbrev pub lane_of : Inside → LaneState
lane_of l = record { events = l.events.items; edus = l.edus.items; placed = l.placed; closed = l.closed; room = l.room }

pub record IsLaneOf (l : Inside) : Type 0 where
  pub events : vec_len l.events + l.room ≤ vec_capacity l.events
  pub edus : vec_len l.edus + l.room ≤ vec_capacity l.edus
