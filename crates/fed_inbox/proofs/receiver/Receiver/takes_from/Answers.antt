use Rattle.std.proofs.Common.{◌≡◌, false, is_some, sym, ap, subst, ◌∙◌}
use Rattle.fed_inbox.specs.LookUps.{is_taken_from}
use Rattle.fed_inbox.specs.Receiver.{ReceiverState}
use Rattle.fed_inbox.proofs.Deliveries.{is_placed, takes_if, takes_not}
use Rattle.fed_inbox.proofs.receiver.Receiver.takes_from.Goals as goal

pub returns-in-Some : goal.returns-in-Some
returns-in-Some c =
    let server = c.args.server.now in
    let one = sym (is_placed c.self.inside.servers server) ∙ ap is_some (sym c.find.ensures.place ∙ c.in-Some.is) in
    subst (λ (r : ReceiverState). c.ne.result ≡ is_taken_from r.own r.servers server) c.self.view_is
    (takes_if c.self.inside.own c.as_str.result.now c.self.inside.servers server c.ne.result c.as_str.ensures.text c.ne.ensures one)

pub returns-in-None : goal.returns-in-None
returns-in-None c =
    let server = c.args.server.now in
    let none = sym (is_placed c.self.inside.servers server) ∙ ap is_some (sym c.find.ensures.place ∙ c.in-None.is) in
    subst (λ (r : ReceiverState). false ≡ is_taken_from r.own r.servers server) c.self.view_is
    (takes_not c.self.inside.own c.self.inside.servers server none)
