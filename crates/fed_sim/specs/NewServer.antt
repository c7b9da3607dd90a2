-- A server that has sent and taken nothing.
use Rattle.std.specs.Prelude.{◌≡◌, ℕ, List, [], Some, length, map, slice_get}
use Rattle.std.specs.FinMap as finite
use Rattle.std.specs.List.{range_with_len}
use Rattle.fed_dest.specs.ServerName.{IsServerName}
use Rattle.fed_inbox.specs.Inbox.{new_inbox}
use Rattle.fed_sim.specs.Hosted.{HostedState, rooms_of, arrivals_of}
use Rattle.fed_sim.specs.Way.{new_way}
use Rattle.fed_sim.specs.Server.{ServerState}

-- the server of this place and name among these names, with these rooms; `known` are their ids
abbrev pub new_server : List (List ℕ) → List (List ℕ) → ℕ → List ℕ → List HostedState → ServerState
new_server names known own name hosted = record {
  own = own;
  name = name;
  rooms = rooms_of hosted;
  arrivals = arrivals_of hosted;
  journal = [];
  ways = map new_way (range_with_len 0 (length names));
  inbox = new_inbox finite.empty name names known;
}

pub record IsNewServer (names known : List (List ℕ)) (own : ℕ) (hosted : List HostedState) (s : ServerState) : Type 0 where
  pub name : List ℕ
  pub name_is : slice_get names own ≡ Some name
  pub named : IsServerName name
  pub is : s ≡ new_server names known own name hosted
