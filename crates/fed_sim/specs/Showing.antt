-- What is told of what a server took from another one.
use Rattle.std.specs.Prelude.{◌≡◌, ◌-◌, ◌^◌, ℕ, List, length, min, Some, None, slice_get}
use Rattle.fed_outbox.specs.Collecting.{Way}
use Rattle.fed_inbox.specs.Inbox.{taken_of, taken_edus_of}
use Rattle.fed_sim.specs.declared.outcome.Outcome.{Outcome}
use Rattle.fed_sim.specs.declared.outcome.Outcome.TheVariants.{NoSuchServer, Shown}
use Rattle.fed_sim.specs.Packets.{way_from}
use Rattle.fed_sim.specs.Server.{ServerState}
use Rattle.fed_sim.specs.World.{WorldState}

-- how many texts they are, as far as 64 bits can say it
abbrev pub count_of : List (List ℕ) → ℕ
count_of texts = min (length texts) (2 ^ 64 - 1)

-- How many events and EDUs a server took from an origin, and how many of each the origin counts as delivered to it.
pub data IsShown (server origin : ℕ) (w : WorldState) : Outcome → Type 0 where
  no_server : slice_get w.servers server ≡ None → IsShown server origin w NoSuchServer
  no_way : way_from w origin server ≡ None → IsShown server origin w NoSuchServer
  shown : (s : ServerState) (way : Way) (name : List ℕ) → slice_get w.servers server ≡ Some s → way_from w origin server ≡ Some way → slice_get w.names origin ≡ Some name
      → IsShown server origin w (Shown (count_of (taken_of s.inbox name)) (count_of (taken_edus_of s.inbox name)) (length way.outbox.settled) (length way.outbox.settled_edus))
