-- The world that these fields stand for.
use Rattle.std.specs.Prelude.{ℕ, List, map, String, string_bytes}
use Rattle.std.specs.declared.alloc.Global.{Global}
use Rattle.fed_sim.specs.declared.packet.Packet.{Packet}
use Rattle.fed_sim.specs.declared.packet.Packet.TheVariants as packet
use Rattle.fed_sim.specs.declared.server.Server.{Server}
use Rattle.fed_sim.specs.ServerParts.{server_of}
use Rattle.fed_sim.specs.World.{PacketState, request, answer, WorldState}

abbrev pub packet_of : Packet → PacketState
packet_of (packet.Request server dest number bytes) = request server dest number bytes.items
packet_of (packet.Answer server dest number reply) = answer server dest number reply

abbrev pub world_with : List (List ℕ) → List (String Global) → ℕ → List Server → List Packet → ℕ → WorldState
world_with names known epoch servers packets now = record {
  names = names;
  known = map string_bytes known;
  epoch = epoch;
  servers = map (λ (s : Server). server_of s) servers;
  packets = map (λ (p : Packet). packet_of p) packets;
  now = now;
}
