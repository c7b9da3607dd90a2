use Rattle.std.proofs.Common.{◌≡◌, drop, find}
use Rattle.fed_resolve.specs.Chain.{auths_at}
use Rattle.fed_resolve.specs.LevelsParts.{stands_there}
use Rattle.fed_resolve.proofs.levels.auth_place.Given as goal

-- the first of the auth events that are left is the first of all
abbrev pub invariant-loop-auth : goal.invariant-loop-auth
invariant-loop-auth l = find (stands_there l.graph.stored l.kind l.state_key) (drop l.auth-index l.auth-items) ≡ find (stands_there l.graph.stored l.kind l.state_key) (auths_at l.graph.stored l.place)
