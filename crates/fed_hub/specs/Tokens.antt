-- What the threads of a new hub hold.
use Rattle.std.specs.Prelude.{◌≡◌, ◌≤◌, ◌+◌, ◌==◌, length, not, filter, map, ℕ, List, [], replicate}
use Rattle.std.specs.List.{range_with_len}
use Rattle.fed_hub_rooms.specs.RoomHeld as room
use Rattle.fed_hub_serving.specs.Answered.{AnsweredValue}
use Rattle.fed_hub_told.specs.Told.{ToldState}
use Rattle.fed_wires.specs.Board.{BoardId}
use Rattle.fed_wires.specs.Seat.{Seated, AreReaders}
use Rattle.fed_hub.specs.ClientToken.{AreNew}
use Rattle.fed_hub.specs.Held.{Held, held_new}
use Rattle.fed_hub.specs.Hub.{HubShape}
use Rattle.fed_hub.specs.declared.tokens.Tokens.{Tokens}

-- a token for each of so many servers but the own one, in the order of their places
abbrev pub senders_new : ℕ → ℕ → List Held
senders_new count own = map (λ (dest : ℕ). held_new dest) (filter (λ dest. not (dest == own)) (range_with_len 0 count))

-- one for each of so many rooms, in the order of their places; and so many of threads that serve and answered nothing
abbrev pub rooms_new : ℕ → List room.RoomHeld
rooms_new count = map (λ (place : ℕ). room.held_new place) (range_with_len 0 count)

abbrev pub servers_new : ℕ → List (List AnsweredValue)
servers_new count = replicate count []

-- A token for each client that was told of nothing, a seat at the board for each reader, a token for each server but the own one and for each
-- room, and one for each thread that serves.
pub record AreTokensOf (parts : ℕ) (board : BoardId) (reading listed own wired serving : ℕ) (clients : List ToldState) (readers : List Seated) (senders : List Held) (rooms : List room.RoomHeld) (servers : List (List AnsweredValue)) : Type 0 where
  pub each_client : AreNew parts clients
  pub each_reader : AreReaders board reading readers
  pub each_sender : senders ≡ senders_new listed own
  pub each_room : rooms ≡ rooms_new wired
  pub each_server : servers ≡ servers_new serving

-- As many tokens of each kind as a hub with so many rooms gave to its threads. That these are all of its tokens follows, since nobody else can make or copy
-- one, but for one of a thread that serves and answered nothing, in whose place any such one will do.
pub record AreAllTokens {N : Type 0} (hub : HubShape) (wired : ℕ) (tokens : Tokens N) : Type 0 where
  pub each_client : length tokens.clients.items ≡ hub.clients
  pub each_reader : length tokens.readers.items ≡ hub.readers
  pub each_sender : length tokens.senders.items + 1 ≡ length hub.list
  pub each_room : length tokens.rooms.items ≡ wired
  pub each_server : length tokens.servers.items ≡ length hub.list

-- Of each kind there are no fewer than such a hub gave to its threads: none of these is missing.
pub record AreNoneMissing {N : Type 0} (hub : HubShape) (wired : ℕ) (tokens : Tokens N) : Type 0 where
  pub clients : hub.clients ≤ length tokens.clients.items
  pub readers : hub.readers ≤ length tokens.readers.items
  pub senders : length hub.list ≤ length tokens.senders.items + 1
  pub rooms : wired ≤ length tokens.rooms.items
  pub servers : length hub.list ≤ length tokens.servers.items

-- the same tokens, in the same order
pub record AreSameTokens {N : Type 0} (old new : Tokens N) : Type 0 where
  pub same_clients : new.clients.items ≡ old.clients.items
  pub same_readers : new.readers.items ≡ old.readers.items
  pub same_senders : new.senders.items ≡ old.senders.items
  pub same_rooms : new.rooms.items ≡ old.rooms.items
  pub same_servers : new.servers.items ≡ old.servers.items
