use Rattle.std.proofs.Common.{◌≡◌, ◌<◌}
use Rattle.fed_hub.specs.ClientToken.{IsToldNothing, share_of}
use Rattle.fed_hub.proofs.hub.Hub.offer_edu.Given as goal

-- what is offered stays; the client was told of nothing, and has room for what it will be told
abbrev pub invariant-loop : goal.invariant-loop
invariant-loop g l = record {
  edu : l.edu ≡ l.fn.edu;
  dests : l.dests ≡ l.fn.dests;
  told : IsToldNothing l.fn.client l.client-inside.told;
  free : 0 < l.client-inside.told.free_edus;
  share : l.client-inside.share ≡ share_of l.client-inside.told;
}
