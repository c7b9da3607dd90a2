-- What others see of a world: its servers, what was sent between them, and the moment.
use Rattle.std.specs.Prelude.{◌≡◌, ◌+◌, ℕ, nat_lt, List, Some, None, set, slice_get, if◌then◌else◌}
use Rattle.fed_room_contract.specs.Draft.{DraftFields}
use Rattle.fed_inbox.specs.Reply.{Answer}
use Rattle.fed_sim.specs.declared.outcome.Outcome.{Outcome}
use Rattle.fed_sim.specs.declared.outcome.Outcome.TheVariants.{NoSuchServer, Now, TooLate}
use Rattle.fed_sim.specs.Server.{ServerState}

-- for the transaction of this number, from one server to another: the bytes of its request, or the answer to it
pub data PacketState : Type 0 where
  request : (server dest number : ℕ) (bytes : List ℕ) → PacketState
  answer : (server dest number : ℕ) (reply : Answer) → PacketState

pub record WorldState : Type 0 where
  -- the names of the servers, the ids of the rooms, and the first part of the number of every transaction: they stay
  pub names : List (List ℕ)
  pub known : List (List ℕ)
  pub epoch : ℕ
  -- in the order of their names
  pub servers : List ServerState
  -- in the order in which they were sent
  pub packets : List PacketState
  -- in milliseconds
  pub now : ℕ

-- the world with another server at a place
abbrev pub with_server : WorldState → ℕ → ServerState → WorldState
with_server w place server = record {
  names = w.names;
  known = w.known;
  epoch = w.epoch;
  servers = set w.servers place server;
  packets = w.packets;
  now = w.now;
}

-- Something is done at one server: what is told, and the world then. Nothing is, where no such server is listed.
pub data AtServer (place : ℕ) (Does : ServerState → Outcome → ServerState → Type 0) (old : WorldState) : Outcome → WorldState → Type 0 where
  nowhere : slice_get old.servers place ≡ None → AtServer place Does old NoSuchServer old
  somewhere : (told : Outcome) (before after : ServerState) → slice_get old.servers place ≡ Some before → Does before told after
      → AtServer place Does old told (with_server old place after)

-- the same for a step that memory ran out in
pub record AtServerInPart (place : ℕ) (Does : ServerState → ServerState → Type 0) (old new : WorldState) : Type 0 where
  pub before : ServerState
  pub after : ServerState
  pub server_is : slice_get old.servers place ≡ Some before
  pub does : Does before after
  pub new_is : new ≡ with_server old place after

-- a draft, dated with this moment
abbrev pub dated : DraftFields → ℕ → DraftFields
dated draft at_ms = record {
  room = draft.room;
  sender = draft.sender;
  kind = draft.kind;
  state_key = draft.state_key;
  content = draft.content;
  at_ms = at_ms;
}

-- the greatest moment
abbrev pub max_moment : ℕ
max_moment = 9007199254740991

abbrev pub at_moment : WorldState → ℕ → WorldState
at_moment w now = record {
  names = w.names;
  known = w.known;
  epoch = w.epoch;
  servers = w.servers;
  packets = w.packets;
  now = now;
}

-- the moment rises, where it does not pass the greatest one
abbrev pub ticked : ℕ → WorldState → Outcome × WorldState
ticked ms w = if nat_lt max_moment (w.now + ms) then (TooLate, w) else (Now (w.now + ms), at_moment w (w.now + ms))
