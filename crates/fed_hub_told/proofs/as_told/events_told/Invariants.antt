use Rattle.std.proofs.Common.{◌≡◌, map, take}
use Rattle.fed_hub_told.proofs.as_told.events_told.Given as goal

-- what the clients so far were told
abbrev pub invariant-loop-client : goal.invariant-loop-client
invariant-loop-client g l = map (λ events. events.now) l.told.items ≡ map (λ client. (g.C.Client.told client).events) (take l.client-index l.clients)
