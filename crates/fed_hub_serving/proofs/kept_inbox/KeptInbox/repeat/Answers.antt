use Rattle.std.proofs.Common.{arith, ◌≡◌, ◌++◌, ◌∷◌, [], List, Some, is_ok, if◌then◌else◌, sym, ap, ◌∙◌, subst}
use Rattle.fed_http.specs.Message.{Answer}
use Rattle.fed_inbox.specs.DeliveryParts.{delivered}
use Rattle.fed_inbox.specs.History.{Point}
use Rattle.fed_inbox.specs.Inbox.{InboxState}
use Rattle.fed_hub_serving.specs.Sections.{IsServed, served}
use Rattle.fed_hub_serving.specs.Serving.{ServingState, ended_in, IsServing}
use Rattle.fed_hub_serving.proofs.KeptStates.{again, serves_again, is_served_again}
use Rattle.fed_hub_serving.proofs.Repeats.{repeats}
use Rattle.fed_hub_serving.proofs.kept_inbox.KeptInbox.repeat.Goals as goal

pub invariant_of-self-2 : goal.invariant_of-self-2
invariant_of-self-2 g c =
    let N = g.N.ServingNaming in
    let k = c.self.inside in
    let request = c.args.delivered.request in
    let reply = c.in-Some.reply in
    let whole = repeats N.checks N.receiver request (delivered c.args.delivered.delivery) k.inbox.state reply c.self.invariant.server c.requires c.in-Some.ensures.kept in
    let point : Point = record { request = request; reply = reply; fresh = [] } in
    let items : c.push.new.self.items ≡ k.points.items ++ point ∷ [] =
    c.push.ensures.items ∙ ap (λ r. if is_ok r then c.reserve.new.self.items ++ c.new-2.result ∷ [] else c.reserve.new.self.items) c.unwrap.ensures
    ∙ (λ i. c.in-Ok.ensures.items i ++ c.new-2.ensures i ∷ [])
    ∙ (λ i. k.points.items ++ record { request = request; reply = c.in-Some.ensures.copy i; fresh = c.new.ensures.items i } ∷ []) in
    subst (λ (y : List Point × InboxState). IsServing N.rooms N.known N.checks N.receiver N.beginning y.0 y.1 k.wires) (λ i. (sym items i, sym c.in-Some.ensures.same i))
    (serves_again N.rooms N.known N.checks N.receiver N.beginning k.points.items k.inbox.state k.wires request reply whole c.self.invariant)

pub returns-clause-taken : goal.returns-clause-taken
returns-clause-taken g c =
    let N = g.N.ServingNaming in
    let k = c.self.inside in
    let request = c.args.delivered.request in
    let reply = c.in-Some.reply in
    let kept = c.in-Some.ensures.kept in
    let whole = repeats N.checks N.receiver request (delivered c.args.delivered.delivery) k.inbox.state reply c.self.invariant.server c.requires kept in
    let point : Point = record { request = request; reply = reply; fresh = [] } in
    let items : c.push.new.self.items ≡ k.points.items ++ point ∷ [] =
    c.push.ensures.items ∙ ap (λ r. if is_ok r then c.reserve.new.self.items ++ c.new-2.result ∷ [] else c.reserve.new.self.items) c.unwrap.ensures
    ∙ (λ i. c.in-Ok.ensures.items i ++ c.new-2.ensures i ∷ [])
    ∙ (λ i. k.points.items ++ record { request = request; reply = c.in-Some.ensures.copy i; fresh = c.new.ensures.items i } ∷ []) in
    let after : List Point → InboxState → ServingState = λ points inbox. record { inbox = inbox; points = points; ended = ended_in k.wires; is_shut = k.wires.is_shut } in
    let is = is_served_again N.rooms N.known N.checks N.receiver N.beginning k.points.items k.inbox.state k.wires request reply whole (λ e. absurd (omega (arith, e, ap (λ (a : Answer). a.status) kept.answer_is))) in
    served (after c.push.new.self.items c.kept_reply.new.inbox.state)
    (subst (λ (y : ServingState × ServingState). IsServed N.checks N.known request y.0 reply y.1) (λ i. (c.self.view_is i, after (sym items i) (sym c.in-Some.ensures.same i))) is)
    (ap Some (c.len.ensures ∙ c.push.new.self.ok.0))
