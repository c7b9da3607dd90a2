-- What a server of a world sends (Matrix, Server-Server API, "PDUs" and "EDUs"). What it tells then, and what its room and its journal are, is
-- as its journal says; beside that stand here only for which room and which servers it is, and what is on the ways then.
use Rattle.std.specs.Prelude.{◌≡◌, ℕ, ◌==◌, ◌&&◌, nat_lt, not, List, [], length, filter, set, slice_get, Some, None, option_and_then}
use Rattle.serde_json.specs.Data.{Data}
use Rattle.fed_keys.specs.StandIn.{stand_in_key, stand_in_signature, stand_in_checks}
use Rattle.fed_room_contract.specs.Draft.{DraftFields}
use Rattle.fed_room_contract.specs.Prepared.{Signer, signer_of}
use Rattle.fed_room_contract.specs.Room.{RoomState}
use Rattle.fed_room.specs.Room.{room_rules}
use Rattle.fed_dest.specs.List.{place_of}
use Rattle.fed_journal.specs.declared.entry.Cause.TheVariants.{Asked}
use Rattle.fed_journal.specs.declared.entry.Entry.{Entry}
use Rattle.fed_journal.specs.Offering as step
use Rattle.fed_journal.specs.Offering.{EventTold, event_not_made, event_has_no_place, event_sent, EduTold, edu_faulty, edu_has_no_place, edu_sent, CloseTold, was_closed, close_has_no_place, is_closed_now}
use Rattle.fed_outbox.specs.Collecting.{Way}
use Rattle.fed_sim.specs.declared.outcome.EduRefusal.TheVariants as edu
use Rattle.fed_sim.specs.declared.outcome.SendRefusal.TheVariants.{UnknownRoom, NotMade, Limit}
use Rattle.fed_sim.specs.declared.outcome.Outcome.{Outcome}
use Rattle.fed_sim.specs.declared.outcome.Outcome.TheVariants.{NoSuchServer, Sent, NotSent, EduSent, EduNotSent, Closed, WasClosed, NotClosed}
use Rattle.fed_sim.specs.Server.{ServerState}
use Rattle.fed_sim.specs.Ways.{way_to, ways_beyond}

-- how the server of a name signs
abbrev pub signer_named : List ℕ → Signer
signer_named name = signer_of name stand_in_key (stand_in_signature name) stand_in_checks

-- the server with a longer journal: the parcels that it places beyond the old one are on their ways
abbrev pub with_journal : ServerState → List Entry → ServerState
with_journal s entries = record {
  own = s.own;
  name = s.name;
  rooms = s.rooms;
  arrivals = s.arrivals;
  journal = entries;
  ways = ways_beyond 0 s.journal entries s.ways;
  inbox = s.inbox;
}

-- the server with this room at a place
abbrev pub with_stored : ServerState → ℕ → RoomState → ServerState
with_stored s place room = record {
  own = s.own;
  name = s.name;
  rooms = set s.rooms place room;
  arrivals = s.arrivals;
  journal = s.journal;
  ways = s.ways;
  inbox = s.inbox;
}

-- ---- an event

-- how a world tells it
abbrev pub event_outcome : EventTold → Outcome
event_outcome (event_not_made refusal) = NotSent (NotMade refusal)
event_outcome event_has_no_place = NotSent Limit
event_outcome (event_sent number event reached) = Sent number reached

-- What a server answers to a draft for the room at a place, and what it is then. `servers` are the names of all servers.
pub data IsOfferedAt (servers : List (List ℕ)) (place : ℕ) (draft : DraftFields) (old : ServerState) : Outcome → ServerState → Type 0 where
  in_room : (room after : RoomState) (told : EventTold) (entries : List Entry) → slice_get old.rooms place ≡ Some room
      → step.IsOffered room_rules (signer_named old.name) servers old.own draft [] room old.journal told after entries
      → IsOfferedAt servers place draft old (event_outcome told) (with_stored (with_journal old entries) place after)

-- What a server answers to a draft, and what it is then. `known` are the ids of the rooms.
pub data IsOffered (servers known : List (List ℕ)) (draft : DraftFields) (old : ServerState) (outcome : Outcome) (new : ServerState) : Type 0 where
  unknown_room : option_and_then (slice_get old.rooms) (place_of known draft.room) ≡ None → outcome ≡ NotSent UnknownRoom → new ≡ old
      → IsOffered servers known draft old outcome new
  known_room : (place : ℕ) → place_of known draft.room ≡ Some place → IsOfferedAt servers place draft old outcome new → IsOffered servers known draft old outcome new

-- ---- an ephemeral data unit

abbrev pub edu_outcome : EduTold → Outcome
edu_outcome (edu_faulty fault) = EduNotSent (edu.NotEdu fault)
edu_outcome edu_has_no_place = EduNotSent edu.Limit
edu_outcome (edu_sent number reached) = EduSent reached

-- those of some servers that are listed, where so many are, and are not the own one
abbrev pub others_among : ℕ → ℕ → List ℕ → List ℕ
others_among own count servers = filter (λ server. not (server == own) && nat_lt server count) servers

-- What a server answers to an ephemeral data unit for the servers `dests`, and what it is then.
pub data IsEduOffered (value : Data) (dests : List ℕ) (old : ServerState) : Outcome → ServerState → Type 0 where
  for_others : (told : EduTold) (entries : List Entry) → step.IsEduOffered value (others_among old.own (length old.ways) dests) [] old.journal told entries
      → IsEduOffered value dests old (edu_outcome told) (with_journal old entries)

-- ---- a closing

abbrev pub close_outcome : CloseTold → Outcome
close_outcome was_closed = WasClosed
close_outcome close_has_no_place = NotClosed
close_outcome is_closed_now = Closed

-- What a server answers when the outbox for d is to be closed, and what it is then.
pub data IsClosedFor (d : ℕ) (old : ServerState) : Outcome → ServerState → Type 0 where
  no_way : way_to old d ≡ None → IsClosedFor d old NoSuchServer old
  on_way : (way : Way) (told : CloseTold) (entries : List Entry) → way_to old d ≡ Some way → step.IsClosing d Asked old.journal told entries
      → IsClosedFor d old (close_outcome told) (with_journal old entries)
