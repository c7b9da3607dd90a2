-- What a server of a world takes (Matrix, Server-Server API, "Transactions" and "PDUs"), as its inbox says.
use Rattle.std.specs.Prelude.{◌≡◌, ◌≤◌, ℕ, List, Some, IsSome, slice_get}
use Rattle.fed_dest.specs.List.{place_of}
use Rattle.fed_event.specs.Checked.{CheckedEvent}
use Rattle.fed_event.specs.Fields.{room_id_of}
use Rattle.fed_keys.specs.StandIn.{stand_in_checks}
use Rattle.fed_http.specs.Message.{RequestValue}
use Rattle.fed_inbox.specs.Reply.{Answer}
use Rattle.fed_inbox.specs.TakeStep.{IsTake}
use Rattle.fed_sim.specs.Hosted.{HostedState}
use Rattle.fed_sim.specs.Server.{ServerState}

-- in front of each room there is room for so many more events
abbrev pub HasRoom : ℕ → List HostedState → Type 0
HasRoom more rooms = (k : ℕ) (room : HostedState) → slice_get rooms k ≡ Some room → more ≤ room.free

-- the event is of one of the rooms, of these ids
abbrev pub IsOfKnown : List (List ℕ) → CheckedEvent → Type 0
IsOfKnown known checked = IsSome (place_of known (room_id_of checked.event))

-- the server with the inbox, and with what is in front of the rooms, of another one
abbrev pub with_taken : ServerState → ServerState → ServerState
with_taken old new = record {
  own = old.own;
  name = old.name;
  rooms = old.rooms;
  arrivals = new.arrivals;
  journal = old.journal;
  ways = old.ways;
  inbox = new.inbox;
}

-- A request reached the server, which gave this reply: its inbox has answered, and what it took for the rooms, of these ids, is in front of them.
pub record IsTakeAt (known : List (List ℕ)) (request : RequestValue) (old : ServerState) (reply : Answer) (new : ServerState) : Type 0 where
  pub taken : IsTake stand_in_checks known old.inbox old.arrivals request reply new.inbox new.arrivals
  pub others : new ≡ with_taken old new
