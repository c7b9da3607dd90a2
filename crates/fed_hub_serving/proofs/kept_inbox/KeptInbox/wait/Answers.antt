use Rattle.std.proofs.Common.{◌∙◌}
use Rattle.fed_hub_serving.proofs.KeptStates.{still_serving, same_state}
use Rattle.fed_hub_serving.proofs.kept_inbox.KeptInbox.wait.Goals as goal

pub invariant_of-self : goal.invariant_of-self
invariant_of-self g c =
    let N = g.N.ServingNaming in
    let k = c.self.inside in
    still_serving k.wires c.wait.new.self c.wait.ensures.same c.wait.ensures.shut N.rooms N.known N.checks N.receiver N.beginning k.points.items k.inbox.state c.self.invariant

pub returns : goal.returns
returns g c = let k = c.self.inside in same_state k.wires c.wait.new.self c.wait.ensures.same c.wait.ensures.shut k.points.items k.inbox.state ∙ c.self.view_is
