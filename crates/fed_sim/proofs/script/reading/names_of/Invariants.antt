use Rattle.std.proofs.Common.{◌≡◌, map}
use Rattle.std.specs.List.{All}
use Rattle.fed_dest.specs.ServerName.{IsServerName}
use Rattle.fed_sim.proofs.script.reading.names_of.Given as goal

-- the names so far are the words so far, each of which is one
abbrev pub invariant-loop-name : goal.invariant-loop-name
invariant-loop-name l = record {
  same : l.names.items ≡ map (λ x. x.now) l.yielded;
  named : All IsServerName (map (λ x. x.now) l.yielded);
}
