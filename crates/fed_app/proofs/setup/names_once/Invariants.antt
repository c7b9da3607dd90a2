use Rattle.std.proofs.Common.{◌≡◌, All, map, take, string_bytes}
use Rattle.fed_dest.specs.ServerName.{IsServerName}
use Rattle.fed_app.specs.Servers.{each_once}
use Rattle.fed_app.proofs.setup.names_once.Given as goal

-- the names of the texts so far
abbrev pub invariant-loop-server : goal.invariant-loop-server
invariant-loop-server l = record {
  names : l.names.items ≡ each_once l.own (map string_bytes (take l.server-index l.servers));
  good : All (λ s. IsServerName (string_bytes s)) (take l.server-index l.servers);
}
