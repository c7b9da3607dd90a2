use Rattle.std.proofs.Common.{◌≡◌, ◌+◌, length, All}
use Rattle.fed_hub.specs.ClientToken.{IsNew}
use Rattle.fed_hub.proofs.making.clients_of.Given as goal

-- one part for each turn, and the others are left; with the first of these there are as many tokens as the counter says
abbrev pub invariant-loop : goal.invariant-loop
invariant-loop g l = record {
  left : l.rest.parts + l.counter ≡ l.parts + 1;
  events : l.rest.events ≡ 0;
  edus : l.rest.edus ≡ 0;
  made : length l.clients.items + 1 ≡ l.counter;
  each : All IsNew l.clients.items;
}
