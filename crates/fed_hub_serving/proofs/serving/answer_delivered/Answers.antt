use Rattle.std.proofs.Common.{sym, subst}
use Rattle.fed_keys.specs.Keys.{Checks}
use Rattle.fed_inbox.specs.Receiver.{ReceiverState}
use Rattle.fed_hub_serving.specs.declared.delivered_request.DeliveredRequest.{DeliveredRequest}
use Rattle.fed_hub_serving.specs.Delivered.{IsDelivered}
use Rattle.fed_hub_serving.proofs.serving.answer_delivered.Goals as goal

pub judge-judged-requires : goal.judge-judged-requires
judge-judged-requires g c =
    subst (λ (y : Checks × ReceiverState × DeliveredRequest). IsDelivered y.0 y.1 y.2) (λ i. (sym c.requires.checks i, sym c.requires.receiver i, sym c.in-Err.ensures.back.0 i)) c.requires.delivered
