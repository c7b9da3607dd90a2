-- What goes from one server to another (Matrix, Server-Server API, "Transactions").
use Rattle.std.specs.Prelude.{◌≡◌, ℕ, zero, suc, ◌+◌, true, false, List, [], ◌∷◌, ◌++◌, length, Option, Some, None, option_and_then, slice_get}
use Rattle.fed_keys.specs.StandIn.{stand_in_key, stand_in_signature}
use Rattle.fed_http.specs.Message.{RequestValue}
use Rattle.fed_outbox.specs.Collecting.{Way}
use Rattle.fed_outbox.specs.Outbox.{is_due}
use Rattle.fed_outbox.specs.Transaction.{TransactionValue}
use Rattle.fed_inbox.specs.Reply.{Answer}
use Rattle.fed_sim.specs.declared.outcome.Outcome.{Outcome}
use Rattle.fed_sim.specs.declared.outcome.Outcome.TheVariants.{NoSuchServer, NothingToPost, NotDue, Posted, NoSuchRequest, Answered, NoSuchAnswer}
use Rattle.fed_exchange.specs.Messages.{asked_of, bytes_sent, IsReadable, IsRequestIn, HasNoRequest, IsStatusOf}
use Rattle.fed_sim.specs.Server.{ServerState}
use Rattle.fed_sim.specs.Taking.{IsTakeAt}
use Rattle.fed_sim.specs.Ways.{way_to, IsOnWay, settling}
use Rattle.fed_sim.specs.World.{PacketState, request, answer, WorldState, with_server, AtServer}

-- the packet of a number, which counts from 1
abbrev pub packet_at : List PacketState → ℕ → Option PacketState
packet_at packets zero = None
packet_at packets (suc k) = slice_get packets k

-- no packet of a number is a request, or an answer
abbrev pub NoRequestAt : List PacketState → ℕ → Type 0
NoRequestAt packets k = (server dest n : ℕ) (bytes : List ℕ) → ¬ (packet_at packets k ≡ Some (request server dest n bytes))

abbrev pub NoAnswerAt : List PacketState → ℕ → Type 0
NoAnswerAt packets k = (server dest n : ℕ) (reply : Answer) → ¬ (packet_at packets k ≡ Some (answer server dest n reply))

-- the world with one more packet
abbrev pub with_packet : WorldState → PacketState → WorldState
with_packet w packet = record {
  names = w.names;
  known = w.known;
  epoch = w.epoch;
  servers = w.servers;
  packets = w.packets ++ packet ∷ [];
  now = w.now;
}

-- the way from a server to a destination: there is one where both are listed and they are not the same
abbrev pub way_from : WorldState → ℕ → ℕ → Option Way
way_from w server dest = option_and_then (λ s. way_to s dest) (slice_get w.servers server)

-- a listed server, and the way from it to a destination
pub record IsOn (w : WorldState) (server dest : ℕ) (s : ServerState) (way : Way) : Type 0 where
  pub server_is : slice_get w.servers server ≡ Some s
  pub way_is : way_to s dest ≡ Some way

-- the packet with the request for a transaction from a server to another one of this name
abbrev pub request_for : WorldState → ℕ → ServerState → ℕ → List ℕ → TransactionValue → PacketState
request_for w server s dest name t = request server dest t.number (bytes_sent (asked_of s.name name w.epoch t) stand_in_key (stand_in_signature s.name))

-- What is told when the request of the unanswered transaction is to be sent from a server to a destination, and what the world is then.
pub data IsPosted (server dest : ℕ) (old : WorldState) : Outcome → WorldState → Type 0 where
  no_sender : slice_get old.servers server ≡ None → IsPosted server dest old NoSuchServer old
  no_way : (s : ServerState) → slice_get old.servers server ≡ Some s → way_to s dest ≡ None → IsPosted server dest old NoSuchServer old
  nothing : (s : ServerState) (way : Way) → IsOn old server dest s way → way.outbox.unanswered ≡ None → IsPosted server dest old NothingToPost old
  not_due : (s : ServerState) (way : Way) (t : TransactionValue) → IsOn old server dest s way → way.outbox.unanswered ≡ Some t
      → is_due way.outbox old.now ≡ false → IsPosted server dest old (NotDue way.outbox.due_at) old
  posted : (s : ServerState) (way : Way) (t : TransactionValue) (name : List ℕ) → IsOn old server dest s way → way.outbox.unanswered ≡ Some t
      → is_due way.outbox old.now ≡ true → slice_get old.names dest ≡ Some name → IsReadable s.name old.epoch t
      → IsPosted server dest old (Posted (length old.packets + 1)) (with_packet old (request_for old server s dest name t))

-- What is told when the request of packet k reaches its server, and what the world is then.
pub data IsTaken (k : ℕ) (old : WorldState) : Outcome → WorldState → Type 0 where
  no_request : NoRequestAt old.packets k → IsTaken k old NoSuchRequest old
  no_text : (server dest n : ℕ) (bytes : List ℕ) → packet_at old.packets k ≡ Some (request server dest n bytes) → HasNoRequest bytes → IsTaken k old NoSuchRequest old
  no_receiver : (server dest n : ℕ) (bytes : List ℕ) → packet_at old.packets k ≡ Some (request server dest n bytes) → slice_get old.servers dest ≡ None
      → IsTaken k old NoSuchRequest old
  taken : (server dest n : ℕ) (bytes : List ℕ) (r : RequestValue) (before after : ServerState) (reply : Answer)
      → packet_at old.packets k ≡ Some (request server dest n bytes) → IsRequestIn bytes r → slice_get old.servers dest ≡ Some before
      → IsTakeAt old.known r before reply after
      → IsTaken k old (Answered (length old.packets + 1) reply.status) (with_packet (with_server old dest after) (answer server dest n reply))

-- What is told when the answer of packet k reaches the server that sent the request, and what the world is then.
pub data IsSettled (k : ℕ) (old : WorldState) (told : Outcome) (new : WorldState) : Type 0 where
  no_answer : NoAnswerAt old.packets k → told ≡ NoSuchAnswer → new ≡ old → IsSettled k old told new
  settled : (server dest n : ℕ) (reply : Answer) (status : Option ℕ) → packet_at old.packets k ≡ Some (answer server dest n reply) → IsStatusOf reply status
      → AtServer server (IsOnWay dest (settling n status old.now)) old told new → IsSettled k old told new
