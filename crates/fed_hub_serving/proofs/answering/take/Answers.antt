use Rattle.std.proofs.Common.{refl, sym, subst}
use Rattle.fed_inbox.specs.Delivery.{IsTaken}
use Rattle.fed_inbox.specs.DeliveryParts.{judgement}
use Rattle.fed_inbox.proofs.Histories.{of_same}
use Rattle.fed_hub_serving.specs.Answering.{Answers}
use Rattle.fed_hub_serving.proofs.answering.take.Goals as goal

pub returns-in-Ok : goal.returns-in-Ok
returns-in-Ok g c =
    let old = c.args.inbox.now.state in
    let taken = c.take-reply.new.self in
    let reply = c.take-reply.result in
    subst (λ comes_to. Answers comes_to old reply c.fresh.new.self.state c.fresh.result.items) (sym c.in-Ok.is)
    (of_same (λ a n f. IsTaken old (judgement c.in-Ok.judged) a n f) reply reply c.fresh.new.self.state taken.state c.fresh.result.items taken.fresh refl c.fresh.ensures.stays c.fresh.ensures.handed c.take-reply.ensures)
