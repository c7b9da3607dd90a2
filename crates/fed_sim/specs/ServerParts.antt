-- The server that the fields of a `Server` stand for.
use Rattle.fed_sim.specs.declared.server.Server.{Server}
use Rattle.fed_sim.specs.Way.{ways_of}
use Rattle.fed_sim.specs.Hosted.{rooms_of, arrivals_of}
use Rattle.fed_sim.specs.Server.{ServerState}

abbrev pub server_of : Server → ServerState
server_of s = record {
  own = s.own;
  name = s.keys;
  rooms = rooms_of s.rooms.items;
  arrivals = arrivals_of s.rooms.items;
  journal = s.journal.entries;
  ways = ways_of s.ways.items;
  inbox = s.inbox.state;
}
