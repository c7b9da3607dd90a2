use Rattle.std.proofs.Common.{◌≡◌, true, subst}
use Rattle.fed_hub_serving.specs.Serving.{ServingState, AreLeft}
use Rattle.fed_hub_serving.proofs.KeptStates.{are_left}
use Rattle.fed_hub_serving.proofs.kept_inbox.KeptInbox.ended.Goals as goal

pub returns : goal.returns
returns g c =
    let k = c.self.inside in
    subst (λ (s : ServingState). s.is_shut ≡ true → AreLeft g.N.ServingNaming.rooms g.N.ServingNaming.known s c.ended.result.now) c.self.view_is
    (λ shut. are_left g.N.ServingNaming.rooms g.N.ServingNaming.known k.inbox.state k.points.items k.wires c.ended.result.now c.self.invariant.sent (c.ended.ensures shut))
