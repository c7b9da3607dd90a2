use Rattle.std.proofs.Common.{◌≡◌, ℕ, Some, length, map, string_bytes}
use Rattle.std.specs.List.{slice_get}
use Rattle.fed_sim.specs.declared.server.Server.{Server}
use Rattle.fed_sim.specs.Running.{IsBeginning}
use Rattle.fed_sim.specs.ServerParts.{server_of}
use Rattle.fed_sim.proofs.running.servers.Given as goal

-- the servers so far
abbrev pub invariant-loop-place : goal.invariant-loop-place
invariant-loop-place l =
    (length l.servers.items ≡ l.place) × ((k : ℕ) (s : Server) → slice_get l.servers.items k ≡ Some s → IsBeginning l.list (map string_bytes l.known) l.rooms k (server_of s))
