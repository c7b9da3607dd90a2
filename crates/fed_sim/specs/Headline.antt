-- The headline: over every list of client sends, closings, worker steps, losses, repeats and late arrivals, the events that a server took from
-- an origin are a prefix, in order and each once, of the origin's events whose resolved state before them has a joined member of that server
-- and which were offered before its outbox closed; all that counts as delivered was taken; a repeated transaction gets its kept reply (Matrix,
-- Server-Server API, "Transactions", "PDUs" and "EDUs"). Sends and closings are steps of a script, worker steps are too; what is lost,
-- repeated or late is its free choice of the packets that it names.
use Rattle.std.specs.Prelude.{◌≡◌, ◌≢◌, ◌≤◌, ℕ, true, List, ◌++◌, length, map, Some, slice_get}
use Rattle.serde_json.specs.Data.{Data}
use Rattle.fed_json.specs.CanonicalText.{canonical_text}
use Rattle.fed_keys.specs.StandIn.{stand_in_key, stand_in_signature}
use Rattle.fed_event.specs.Checked.{CheckedEvent}
use Rattle.fed_event.specs.Fields.{room_id_of}
use Rattle.fed_room_contract.specs.Graph.{is_stored}
use Rattle.fed_room_contract.specs.Room.{RoomState, event_id}
use Rattle.fed_room.specs.Room.{room_rules}
use Rattle.fed_journal.specs.declared.entry.Entry.TheVariants as entry
use Rattle.fed_journal.specs.Journal.{addressed, addressed_edus}
use Rattle.fed_outbox.specs.Collecting.{Way}
use Rattle.fed_outbox.specs.Transaction.{TransactionValue}
use Rattle.fed_inbox.specs.declared.refusal.Refusal.TheVariants.{OutOfMemory}
use Rattle.fed_inbox.specs.Inbox.{taken_of, taken_edus_of}
use Rattle.fed_inbox.specs.Reply.{Answer, refused}
use Rattle.fed_sim.specs.declared.outcome.Outcome.{Outcome}
use Rattle.fed_sim.specs.declared.setup.Setup.{Setup}
use Rattle.fed_sim.specs.declared.step.Step.{Step}
use Rattle.fed_dest.specs.Joined.{AreDestinations}
use Rattle.fed_dest.specs.List.{place_of}
use Rattle.fed_exchange.specs.Messages.{asked_of, bytes_sent}
use Rattle.fed_sim.specs.Packets.{packet_at, with_packet, IsOn, IsTaken}
use Rattle.fed_sim.specs.Running.{IsRun}
use Rattle.fed_sim.specs.Server.{ServerState}
use Rattle.fed_sim.specs.Steps.{Reached}
use Rattle.fed_sim.specs.Ways.{way_to}
use Rattle.fed_sim.specs.World.{request, answer, WorldState, with_server}

-- ---- what was taken, and what counts as delivered

-- the canonical texts of events, and of ephemeral data units
abbrev pub event_texts : List CheckedEvent → List (List ℕ)
event_texts events = map (λ (checked : CheckedEvent). canonical_text checked.event.value) events

abbrev pub edu_texts : List Data → List (List ℕ)
edu_texts edus = map canonical_text edus

-- one list is a prefix of another: all of it stands there, in order and each once
abbrev pub IsPrefixOf : List (List ℕ) → List (List ℕ) → Type 0
IsPrefixOf front whole = (rest : List (List ℕ)) × (whole ≡ front ++ rest)

-- From the server `origin` to another one, `dest`, at place d, on this way.
pub record IsDelivered (origin dest : ServerState) (d : ℕ) (way : Way) : Type 0 where
  -- what dest took of it is a prefix of what it addressed to dest
  pub events : IsPrefixOf (taken_of dest.inbox origin.name) (event_texts (addressed origin.journal d))
  pub edus : IsPrefixOf (taken_edus_of dest.inbox origin.name) (edu_texts (addressed_edus origin.journal d))
  -- what counts as delivered was taken
  pub settled : length way.outbox.settled ≤ length (taken_of dest.inbox origin.name)
  pub settled_edus : length way.outbox.settled_edus ≤ length (taken_edus_of dest.inbox origin.name)

-- There is a way from each server, by the name that is listed for it, to each other one, and it delivers.
abbrev pub AllDelivered : WorldState → Type 0
AllDelivered w = (o d : ℕ) (origin dest : ServerState) → slice_get w.servers o ≡ Some origin → slice_get w.servers d ≡ Some dest → o ≢ d
    → (slice_get w.names o ≡ Some origin.name) × ((way : Way) × (way_to origin d ≡ Some way) × IsDelivered origin dest d way)

-- ---- how requests are answered

-- transaction n of `server` was answered by `dest` with this reply, of status 200
pub record WasGiven (w : WorldState) (server dest n : ℕ) (reply : Answer) : Type 0 where
  pub packet : ℕ
  pub packet_is : packet_at w.packets packet ≡ Some (answer server dest n reply)
  pub ok : reply.status ≡ 200

-- all of a transaction of the server of this name is taken
pub record IsAllTaken (origin : List ℕ) (t : TransactionValue) (before after : ServerState) : Type 0 where
  pub events : taken_of after.inbox origin ≡ taken_of before.inbox origin ++ event_texts t.pdus
  pub edus : taken_edus_of after.inbox origin ≡ taken_edus_of before.inbox origin ++ edu_texts t.edus

-- the bytes are the request that brings a transaction from the one server to the other, signed by the first
abbrev pub IsRequestOf : ℕ → ServerState → ServerState → TransactionValue → List ℕ → Type 0
IsRequestOf epoch origin dest t bytes = bytes ≡ bytes_sent (asked_of origin.name dest.name epoch t) stand_in_key (stand_in_signature origin.name)

-- What the request for transaction n of `server`, which has these bytes, is answered by `dest`, and what that one is then.
pub data IsAnswered (w : WorldState) (server dest n : ℕ) (bytes : List ℕ) (before : ServerState) : Answer → ServerState → Type 0 where
  -- memory ran out: nothing is taken
  no_memory : IsAnswered w server dest n bytes before (refused OutOfMemory) before
  -- it was answered with 200 before: it gets that reply, and nothing is taken
  again : (reply : Answer) → WasGiven w server dest n reply → ((earlier : Answer) → WasGiven w server dest n earlier → earlier ≡ reply) → IsAnswered w server dest n bytes before reply before
  -- it was not: it is the request of the transaction that waits for its answer at its origin, and all of that is taken
  first : (reply : Answer) (after origin : ServerState) (way : Way) (t : TransactionValue) → ((earlier : Answer) → ¬ (WasGiven w server dest n earlier)) → reply.status ≡ 200
      → IsOn w server dest origin way → way.outbox.unanswered ≡ Some t → t.number ≡ n → IsRequestOf w.epoch origin before t bytes → IsAllTaken origin.name t before after
      → IsAnswered w server dest n bytes before reply after

-- the request of a packet is answered so, and the answer is on its way
pub record IsAnsweredOnce (old : WorldState) (server dest n : ℕ) (bytes : List ℕ) (new : WorldState) : Type 0 where
  pub before : ServerState
  pub after : ServerState
  pub reply : Answer
  pub before_is : slice_get old.servers dest ≡ Some before
  pub answered : IsAnswered old server dest n bytes before reply after
  pub new_is : new ≡ with_packet (with_server old dest after) (answer server dest n reply)

-- In this world, and in those that come of it in rounds of calm, every request is answered so that reaches its server.
abbrev pub TakesOnce : WorldState → Type 0
TakesOnce w = (old : WorldState) → Reached w old → (k server dest n : ℕ) (bytes : List ℕ) → packet_at old.packets k ≡ Some (request server dest n bytes)
    → (told : Outcome) (new : WorldState) → IsTaken k old told new → IsAnsweredOnce old server dest n bytes new

-- That is so of every world that a run leads to which begins with this setup: of each on the way of a run.
abbrev pub AllTakeOnce : Setup → Type 0
AllTakeOnce setup = (steps : List Step) (replies : List Outcome) (w : WorldState) → IsRun setup steps replies w → TakesOnce w

-- ---- where events go

-- An event of a server's journal is stored in the server's room of the id that it bears, among rooms of these ids, and its destinations are the places
-- of the servers, of these names, that are joined in the state before it in that room's graph.
pub record IsOfRoom (names known : List (List ℕ)) (s : ServerState) (event : CheckedEvent) (dests : List ℕ) : Type 0 where
  pub place : ℕ
  pub place_is : place_of known (room_id_of event.event) ≡ Some place
  pub room : RoomState
  pub room_is : slice_get s.rooms place ≡ Some room
  pub stored : is_stored room.stored (event_id event) ≡ true
  pub destinations : AreDestinations room.stored (room_rules.before room.stored event.event) names s.own dests

-- So it is with each event of each journal.
abbrev pub AllAreDestinations : WorldState → Type 0
AllAreDestinations w = (place k : ℕ) (s : ServerState) (event : CheckedEvent) (dests : List ℕ) → slice_get w.servers place ≡ Some s → slice_get s.journal k ≡ Some (entry.Event event dests)
    → IsOfRoom w.names w.known s event dests

-- ---- the headline

-- Of the world after a list of steps, and of what was told of each.
pub record Headline (setup : Setup) (steps : List Step) (replies : List Outcome) (w : WorldState) : Type 0 where
  -- each step did what it says, or memory ran out in it; so each cut took the first at most 50 events and 100 ephemeral data units
  pub ran : IsRun setup steps replies w
  -- there are as many servers as names
  pub count : length w.servers ≡ length w.names
  pub delivered : AllDelivered w
  pub takes : AllTakeOnce setup
  pub destinations : AllAreDestinations w
