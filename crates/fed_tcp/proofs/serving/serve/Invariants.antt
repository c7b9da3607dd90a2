use Rattle.std.proofs.Common.{◌≤◌}
use Rattle.fed_tcp.specs.Serving.{ServesInTurn}
use Rattle.fed_tcp.proofs.serving.serve.Given as goal

-- what was served so far
abbrev pub invariant-loop : goal.invariant-loop
invariant-loop g l =
    let S = g.N.ServingNaming in
    ServesInTurn S.checks S.known S.beginning l.fn.token l.token l.replies × (l.replies ≤ l.counter)
