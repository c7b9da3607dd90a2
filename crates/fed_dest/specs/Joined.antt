-- The servers that are joined in a room (Matrix, Server-Server API, "PDUs": an event is sent to the other servers that are joined in the
-- room), by its state: those of the users whose membership is `join` (Client-Server API, "m.room.member").
use Rattle.std.specs.Prelude.{◌≡◌, ℕ, List, ◌==◌, ◌&&◌, Bool, not, Option, codes, bytes_eq, slice_get, option_and_then}
use Rattle.std.specs.FinMap as finite
use Rattle.std.specs.List.{list_any}
use Rattle.std.specs.List.Sorted.{IsStrictlyIncreasing}
use Rattle.fed_event.specs.Event.{Event}
use Rattle.serde_json.specs.Find.{as_str, get}
use Rattle.fed_event.specs.Ids.{domain_of}
use Rattle.fed_event.specs.Fields.{content_of, kind_of, state_key_of}
use Rattle.fed_event.specs.Tests.{holds}
use Rattle.fed_room_contract.specs.declared.graph.Stored.{Stored}
use Rattle.fed_room_contract.specs.Graph.{stored_at}
use Rattle.fed_room_contract.specs.State.{StateKey, StateMap}
use Rattle.fed_dest.specs.ServerSet.{is_among}

-- the membership in the event's content, where it is a text
abbrev pub membership_of : Event → Option (List ℕ)
membership_of event = option_and_then as_str (get (codes "membership") (content_of event))

abbrev pub says_join : Event → Bool
says_join event = holds (λ membership. bytes_eq membership (codes "join")) (membership_of event)

-- an event by which a user of this server is joined
abbrev pub joins_server : List ℕ → Event → Bool
joins_server server event =
    holds (λ state_key. bytes_eq (kind_of event) (codes "m.room.member") && bytes_eq (domain_of state_key) server && says_join event) (state_key_of event)

-- the event of this id is stored, and says so
abbrev pub is_join : List Stored → List ℕ → Bool
is_join events id = holds (λ stored. says_join stored.event.event) (stored_at events id)

-- an entry of a state, of a type, a state key and an id, by which a user of this server is joined
abbrev pub joins : List Stored → List ℕ → StateKey × List ℕ → Bool
joins events server entry = bytes_eq entry.0.0 (codes "m.room.member") && bytes_eq (domain_of entry.0.1) server && is_join events entry.1

-- some user of the server is joined
abbrev pub is_joined : List Stored → StateMap → List ℕ → Bool
is_joined events state server = list_any (joins events server) (finite.entries state)

-- a joined server stands at this place of the list
abbrev pub is_joined_place : List Stored → StateMap → List (List ℕ) → ℕ → Bool
is_joined_place events state servers place = holds (is_joined events state) (slice_get servers place)

-- another one than the own server does
abbrev pub is_destination : List Stored → StateMap → List (List ℕ) → ℕ → ℕ → Bool
is_destination events state servers own place = not (place == own) && is_joined_place events state servers place

-- the places of the servers that an event goes to, by the stored events and the state before it: each once, in order
pub record AreDestinations (events : List Stored) (before : StateMap) (servers : List (List ℕ)) (own : ℕ) (dests : List ℕ) : Type 0 where
  pub rising : IsStrictlyIncreasing dests
  pub each : (d : ℕ) → is_among dests d ≡ is_destination events before servers own d
