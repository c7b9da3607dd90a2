use Rattle.std.proofs.Common.{◌≡◌}
use Rattle.fed_hub.specs.ClientToken.{IsToldNothing}
use Rattle.fed_hub.proofs.hub.Hub.send.Given as goal

-- the draft is an equal one, and the client was told of nothing
abbrev pub invariant-loop : goal.invariant-loop
invariant-loop g l = record {
  draft : l.draft ≡ l.fn.draft;
  told : IsToldNothing l.fn.client l.client;
}
